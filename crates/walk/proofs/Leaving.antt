-- What the tables tell of a structure behind the walk, and the map that reached it.
use Prim.Native.Nat.{ℕ, ◌<◌}
use native.Mathlib.Omega.{arith}
use mathlib.Core.Path.{◌≡◌, refl}
use mathlib.Core.List.{List}
use mathlib.Core.Bool.{true}
use mathlib.Core.Option.{some}
use lib.ListN.{length, get_or}
use Rattle.std.specs.Prelude as std
use Rattle.std.specs.Prelude.{Some, None, unwrap_or}
use Rattle.laws.proofs.Lists.{never}
use Rattle.definition.specs.Base.{given}
use Rattle.definition.specs.Rule.{Rule, Pair}
use Rattle.definition.specs.Walk.{State, structure_at, pairs_between}
use Rattle.naming.specs.Variables.{GivenOut}
use Rattle.rule.specs.Found.{found_pairs, Joins}
use Rattle.rule.specs.Lookup.{rule_at}
use Rattle.rule.specs.Map.{pairs_from}
use Rattle.rule.specs.Structures.{structure_in}
use Rattle.rule.specs.Views.{Joined}
use Rattle.rule.specs.declared.map.Map.{Map}
use Rattle.rows.specs.Kernel.{Merged}
use Rattle.rows.specs.Links.{LinkBy, BothAlike}
use Rattle.rows.proofs.LinkLaws.{alike_at}
use Rattle.walk.specs.declared.tables.Tables.{Tables}
use Rattle.walk.specs.Ended.{Reaching}
use Rattle.walk.specs.Tables.{unreached, source_at, row_at, merged_at, pairs_on}
use Rattle.walk.specs.Reached.{ReachBy, EndsIn, Leaves, Found, ByMap, link_on}
use Rattle.walk.proofs.Reaching.{given_more, source_some, is_reached, reached_inside}

module _ (r : ReachBy) {state : State} (e : EndsIn r state) (t : ℕ) where
  pub found_none : get_or r.tb.sources t None ≡ None → Found None r t
  unfolding source_at
  found_none q = record { is = rw q }

  pub found_some : {u : ℕ} → get_or r.tb.sources t None ≡ Some u → Found (Some u) r t
  found_some {u} q =
      let s = source_some r.tb t e.ties.sources_small q in
      let a = (is_reached e.ties t s.1).2 in
      record {
        is = (
          s.0,
          record { inside = reached_inside e.ties t s.1; reached = s.1 },
          record { inside = rw s.0 (reached_inside e.ties _ a.source_reached); reached = rw s.0 a.source_reached },
          λ h. rw s.0 (a.source_down h),
        );
      }

  -- Its variables have types.
  pub row_typed : source_at r.tb t < unreached → GivenOut (structure_at r.rule t) (row_at r.tb t) (length r.types)
  row_typed h = given_more e.types_long (is_reached e.ties t h).2.given

-- The source of a structure that was reached, as a number.
pub source_there : {r : ReachBy} {t : ℕ} {o : std.Option ℕ} → Reaching r.rule r.tb t → Found o r t
    → (unwrap_or o 0 ≡ source_at r.tb t) × Reaching r.rule r.tb (unwrap_or o 0)
source_there {o = Some u} h s = (s.is.0, s.is.2)
source_there {o = None} h s = let q = s.is in let l = h.reached in absurd (omega arith)

-- Its map, of the pairs that were found.
pub map_found : (o : std.Option Map) (default : Map) {rule : Rule} {u t : ℕ} → given (pairs_between rule.maps u t) ≡ true
    → found_pairs o ≡ pairs_between rule.maps u t → Joins o rule u t
    → (some (pairs_from (unwrap_or o default)) ≡ pairs_between rule.maps u t) × Joined rule u t (pairs_from (unwrap_or o default))
map_found (Some m) default g q j = (q, j.is)
map_found None default g q j = never (rw (← q) at g) refl

module _ (r : ReachBy) (t : ℕ) {u : ℕ} {pairs : List Pair} (s : u ≡ source_at r.tb t) (p : some pairs ≡ pairs_between r.rule.maps u t) where
  pairs_there : pairs_on r.rule (source_at r.tb t) t ≡ pairs
  unfolding pairs_on
  pairs_there = rw (← s, ← p) refl

  pub merged_found : {state : State} → EndsIn r state → Reaching r.rule r.tb t → ByMap r t → Merged (merged_at r.tb t) (structure_at r.rule t) pairs
  merged_found e h m = rw pairs_there at ((is_reached e.ties t h.reached).2.merged m.behind)

  pub link_found : {m : LinkBy}
      → m ≡ record { source = structure_at r.rule u; target = structure_at r.rule t; pairs = pairs; merged = merged_at r.tb t } → m ≡ link_on r t
  link_found e = rw (pairs_there, ← s) e

-- The rows of both structures are alike.
pub alike_there : {bytes index types : List ℕ} {tb : Tables} → Leaves bytes index tb types → (u t : ℕ) → u < length (rule_at bytes).structures
    → t < length (rule_at bytes).structures → BothAlike (structure_at (rule_at bytes) u) (structure_at (rule_at bytes) t)
unfolding structure_in
alike_there l u t h k = alike_at (l.sounds u h) (l.sounds t k)
