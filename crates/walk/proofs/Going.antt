-- A map walked by the code: what its parts answer, put together.
use Prim.Native.Nat.{ℕ, ◌+◌, ◌≤◌}
use native.Mathlib.Omega.{arith}
use mathlib.Core.Path.{◌≡◌, refl, ap, ◌∙◌}
use mathlib.Core.Logic.{◌⊎◌, inl, inr}
use mathlib.Core.List.{List, []}
use mathlib.Core.Option.{Option}
use mathlib.Core.Bool.{true, false}
use lib.ListN.{length, get_or}
use lib.Seq.{sets}
use Rattle.definition.specs.Base.{refused}
use Rattle.definition.specs.Limits.{field_limit}
use Rattle.definition.specs.Group.{Variable}
use Rattle.definition.specs.Names.{numbered}
use Rattle.definition.specs.Walk.{structure_at}
use Rattle.flags.specs.declared.Mask.{Mask}
use Rattle.rows.specs.Kernel.{TypesOf}
use Rattle.rows.specs.Links.{LinkBy, Linked}
use Rattle.rows.specs.Morphisms.{MorphismBy}
use Rattle.rule.specs.Lookup.{kind_is}
use Rattle.rule.specs.declared.tail.MorphismKind as read
use Rattle.rule.specs.Views.{RuleBy}
use Rattle.naming.specs.Variables.{bare, row_of, kept_in, new_in}
use Rattle.naming.specs.Maps.{taken_over, taken_between}
use Rattle.naming.proofs.Carrying.{listed_taken}
use Rattle.naming.proofs.Whole.{kept_row}
use Rattle.naming.proofs.News.{types_of, bare_new}
use Rattle.statements.specs.declared.masks.Masks.{Masks}
use Rattle.kinds.specs.Edges.{step_with, edge_by}
use Rattle.kinds.specs.Steps.{step_by}
use Rattle.laws.specs.Numbering.{fresh}
use Rattle.std.proofs.Common.{Result, Ok, Err}
use Rattle.records.specs.Refusals.{number}
use Rattle.records.specs.declared.refusal.Refusal.{Refusal}
use Rattle.records.specs.declared.refusal.Refusal.TheVariants.{UnreachedSource, ReachedTarget}
use Rattle.std.specs.Prelude.{None}
use Rattle.std.specs.Option.{is_some}
use Rattle.walk.specs.declared.tables.StructureMasks.{StructureMasks}
use Rattle.walk.specs.declared.tables.Tables.{Tables}
use Rattle.walk.specs.Tables.{SmallSources, row_at}
use Rattle.walk.specs.Left.{Going}
use Rattle.walk.specs.Linked.{Ready, Links}
use Rattle.walk.specs.Went.{Visit, Kinded, map_on, Ends, Met, Does, whole_walk, Went}
use Rattle.walk.proofs.Reaching.{is_reached, source_reached, source_none}
use Rattle.walk.proofs.Walkable.{Walkable}
use Rattle.walk.proofs.Growing.{grown}
use Rattle.walk.proofs.Stepping.{row, taken, long, below, stepped}
use Rattle.walk.proofs.Stepping as step
use Rattle.walk.proofs.Mapping.{no_source, has_target, map_refused, map_accepted}
use Rattle.walk.proofs.Folding.{stop, go_on}

-- A map by itself that is one of a rule.
module _ {x : RuleBy} {l : LinkBy} {source target : ℕ} {kind : read.MorphismKind} {first : ℕ} {types : List ℕ} {tb : Tables}
    (h : Links x l source target kind) (g : Going x tb types first target source) where
  -- As the walk meets it.
  abbrev m : MorphismBy
  m = map_on x source target l.merged

  abbrev v : Visit
  v = record { morphism = m; source = source; target = target; kind = kind; first = first }

  met : Met x v
  met = record { kinded = h.kinded; merged = l.merged; morphism = refl }

  -- What `ends` answered: 23 or 24, or that the map can be walked.
  pub ends_stop : {tb' : Tables} {types' : List ℕ} {r : Refusal} → Ends (Err r) tb.sources source target → Went (Err r) x tb' types' target source
  ends_stop {r = r} d = record { is = go d.is }
    where
      small : SmallSources tb
      small = g.walking.ties.sources_small

      go : ((r ≡ UnreachedSource) × (is_some (get_or tb.sources source None) ≡ false))
          ⊎ ((r ≡ ReachedTarget) × (is_some (get_or tb.sources source None) ≡ true) × (is_some (get_or tb.sources target None) ≡ true))
          → whole_walk x ≡ refused (number r)
      go (inl y) = rw y.0 (stop g met (no_source x g.walking source (kind_is kind) h.kinded.source_in (source_none tb source y.1)))
      go (inr y) =
          rw y.0 (stop g met (has_target x g.walking source (kind_is kind) (source_reached tb source small y.1) (source_reached tb target small y.2)))

  pub walkable : Linked l → length l.target.elements ≤ field_limit → {u : Unit {0}} → Ends (Ok u) tb.sources source target → Walkable x tb types v
  walkable k few d = record {
    keyed = h.keyed;
    elements_few = rw h.to at few;
    met = met;
    between = record { keys = rw (h.from, h.pairs) at k.keys; images = rw (h.to, h.pairs) at k.images; merged = rw (h.to, h.pairs) at k.merged };
    going = g;
    reached = source_reached tb source g.walking.ties.sources_small d.is.0;
    free = source_none tb target d.is.1;
  }

  -- What the code's calls answered of the map by itself, of the one that was met.
  pub row_over : (sourcevars : List ℕ) {targetvars : List ℕ}
      → targetvars ≡ row_of (numbered first (taken_between sourcevars l.source.elements l.target.elements l.pairs))
      → targetvars ≡ row_of (numbered first (taken_over sourcevars m))
  row_over sourcevars e =
      (rw (h.from, h.to, h.pairs) at e) ∙ ap (λ (t : List (Option ℕ)). row_of (numbered first t)) (listed_taken m.source m.target m.pairs sourcevars)

  pub answered : (sourcevars targetvars : List ℕ) {r : Result Masks Refusal}
      → ((table : List Variable) → TypesOf table types → Does (step_with x.sig (edge_by l sourcevars targetvars types)) table (kind_is kind) r)
      → (table : List Variable) → TypesOf table types → Does (step_by m sourcevars targetvars types) table (kind_is kind) r
  answered sourcevars targetvars d table t = rw (h.from, h.to, h.pairs) at (d table t)

  pub types_over : (targetvars : List ℕ) {types' : List ℕ} → types' ≡ sets types first (types_of (new_in (bare l.target.elements) first targetvars))
      → types' ≡ sets types first (types_of (new_in m.target first targetvars))
  types_over targetvars e = rw h.to at (e ∙ ap (sets types first) (bare_new l.target first targetvars))

-- What the walk over a rule gives of a map that it has come to.
pub ready : {x : RuleBy} {tb : Tables} {types : List ℕ} {first source target : ℕ} {kind : read.MorphismKind} → Kinded x source target kind
    → Going x tb types first target source → Ready (structure_at x.rule source) tb first (length types) source target
ready {tb = tb} {source = source} {target = target} k g =
    let w = g.walking in
    let few = w.ties.few in
    let i = k.source_in in
    let j = k.target_in in
    record {
      source_in = omega arith;
      target_in = omega arith;
      given = λ e. rw w.next_is (is_reached w.ties source (source_reached tb source w.ties.sources_small e)).2.given;
      room = λ e. let f = w.fewer (source_none tb target e) in let l = w.types_long in (omega arith, omega arith);
    }

-- What the code answers of a map that can be walked.
module _ {x : RuleBy} {types : List ℕ} {tb : Tables} {v : Visit} (o : Walkable x tb types v) where
  -- By the map as the definition has it.
  module _ {sourcevars targetvars : List ℕ} (b : sourcevars ≡ get_or tb.vars v.source [])
      (a : targetvars ≡ row_of (numbered v.first (taken_over sourcevars v.morphism))) where
    -- The rows that the code has.
    source_row : sourcevars ≡ row_at tb v.source
    unfolding row_at
    source_row = b

    target_row : targetvars ≡ row o
    target_row = rw (source_row, o.met.morphism) at a

    -- What `flatten_link` answered.
    abbrev Answered : Result Masks Refusal → Type 0
    Answered r = (table : List Variable) → TypesOf table types → Does (step_by v.morphism sourcevars targetvars types) table (kind_is v.kind) r

    does : {r : Result Masks Refusal} → Answered r
        → Does (step_by (step.m o) (row_at tb v.source) (row o) types) o.going.state.variables (kind_is v.kind) r
    does d = rw (source_row, target_row, o.met.morphism) at (d _ o.going.walking.types_are)

    pub went_refused : {r : Refusal} {tb' : Tables} {types' : List ℕ} → Answered (Err r) → Went (Err r) x tb' types' v.target v.source
    went_refused d = record { is = stop o.going o.met (map_refused o (does d).is) }

    abbrev more : ℕ
    more = fresh (kept_in v.first (length v.morphism.target.elements) targetvars)

    -- How many are new.
    new_is : more ≡ fresh (taken o)
    new_is = rw (target_row, o.met.morphism) (ap fresh (kept_row (below o) (long o)))

    pub went_on : {said : Masks} {merged : Mask} {tb' : Tables} {types' : List ℕ} → Answered (Ok said) → merged ≡ v.morphism.merged
        → types' ≡ sets types v.first (types_of (new_in v.morphism.target v.first targetvars))
        → tb' ≡ grown tb v.target v.source (record { said = said; merged = merged }) targetvars
        → Went (Ok (v.first + more)) x tb' types' v.target v.source
    went_on {said} {merged} d f y z =
        let ms : StructureMasks = record { said = said; merged = merged } in
        let d' = does d in
        let g : merged ≡ o.met.merged = rw o.met.morphism at f in
        let w = stepped o ms (rw g (step.between o).merged) (rw target_row at (ap (λ (n : ℕ). v.first + n) new_is)) (rw (target_row, o.met.morphism) at y) in
        record { is = rw (z, target_row) (go_on o.going o.met (map_accepted o ms d'.is.0 d'.is.1.0 d'.is.1.1) w) }
