-- The W fields, structure by structure.
use Prim.Native.Nat.{ℕ, zero, suc, ◌+◌, ◌*◌, ◌≤◌, ◌<◌}
use native.Mathlib.Omega.{arith}
use mathlib.Core.Path.{◌≡◌, refl}
use mathlib.Core.Bool.{true, false}
use mathlib.Core.List.{List, [], append-nil}
use lib.Dec.{ltb}
use lib.ListN.{length, get_or, length-append, length-take}
use borrow.Author.Tests.{lt-ltb, le-ltb}
use Rattle.definition.specs.Base.{each, joined}
use Rattle.definition.specs.Limits.{structure_limit, field_limit, variable_limit}
use Rattle.definition.specs.Rule.{Rule, Structure}
use Rattle.definition.specs.Walk.{State, structure_at}
use Rattle.definition.specs.Writer.{record_bytes, variable_field}
use Rattle.laws.proofs.Lists.{each_append, length_each}
use Rattle.laws.proofs.Numbering.{fresh_few}
use Rattle.laws.proofs.ByteForm.{record_append}
use Rattle.records.specs.Buffer.{Put, count_limit}
use Rattle.records.proofs.Tail.{nothing, then}
use Rattle.std.specs.Prelude as std
use Rattle.std.specs.Prelude.{Some, None}
use Rattle.std.specs.Option.{is_some}
use Rattle.laws.proofs.Lists.{never}
use Rattle.rule.proofs.ElementLaws.{listed}
use Rattle.rule.specs.Lookup.{rule_at}
use Rattle.rule.specs.Structures.{structure_in, Laid}
use Rattle.naming.specs.Variables.{kept_in, new_in}
use Rattle.walk.specs.declared.tables.Tables.{Tables}
use Rattle.walk.specs.Tables.{unreached, source_at, row_at, news_to}
use Rattle.walk.proofs.Numbers.{new_count}
use Rattle.walk.specs.Reached.{ReachBy, EndsIn, Leaves, reach_by}
use Rattle.writer.specs.Numbered.{Numbered}

no_bytes : record_bytes [] ≡ []
unfolding record_bytes joined
no_bytes = refl

-- What the index has of a structure: few elements.
module _ {bytes index : List ℕ} {k : ℕ} (l : Laid bytes index k) where
  pub laid_few : length (structure_in bytes k).elements ≤ field_limit
  laid_few = rw l.same (listed l.elements.elements).few

-- The W fields of the first structures were put, and their variables are so many.
pub record Naming (out₀ out : List ℕ) (rule : Rule) (tb : Tables) (from at number t : ℕ) : Type 0 where
  pub put : Put out₀ out (record_bytes (each variable_field (news_to rule tb t))) from at
  pub count : number ≡ length (news_to rule tb t)
  pub few : number ≤ field_limit * t

-- Of the tables the sources and the variables tell them.
abbrev pub told_by : List (std.Option ℕ) → List (List ℕ) → Tables
told_by sources vars = record { sources = sources; masks = []; vars = vars }

news_told : (rule : Rule) (tb : Tables) (t : ℕ) → news_to rule (told_by tb.sources tb.vars) t ≡ news_to rule tb t
unfolding news_to source_at row_at
news_told rule tb zero = refl
news_told rule tb (suc t) = rw (news_told rule tb t)

pub naming_start : (out : List ℕ) (rule : Rule) (tb : Tables) {from : ℕ} → from ≤ count_limit → Naming out out rule tb from from 0 0
unfolding news_to each
naming_start out rule tb {from} h = record { put = rw no_bytes (nothing out from h); count = refl; few = omega arith }

kept_few : (first count : ℕ) (row : List ℕ) → length (kept_in first count row) ≤ count
unfolding kept_in
kept_few first count row = rw (length_each, length-take count row) (omega arith)

-- A structure has few new variables.
pub new_few : (st : Structure) (first : ℕ) (row : List ℕ) → length st.elements ≤ field_limit → length row ≡ field_limit
    → length (new_in st first row) ≤ field_limit
new_few st first row h l =
    let v = new_count st first row (omega arith) in
    let k = fresh_few (kept_in first (length st.elements) row) in
    let i = kept_few first (length st.elements) row in omega arith

-- A source as the code reads it.
module _ {bytes index : List ℕ} {sources : List (std.Option ℕ)} (m : Numbered bytes index sources) (vars : List (List ℕ)) (t : ℕ) where
  pub source_told : is_some (get_or sources t None) ≡ true → source_at (told_by sources vars) t < unreached
  unfolding source_at
  source_told e = go (get_or sources t None) refl e
    where
      go : (o : std.Option ℕ) → get_or sources t None ≡ o → is_some o ≡ true → source_at (told_by sources vars) t < unreached
      go (Some u) q z = rw q (m.small t u q)
      go None q z = never z refl

  pub source_untold : is_some (get_or sources t None) ≡ false → source_at (told_by sources vars) t ≡ unreached
  unfolding source_at
  source_untold e = go (get_or sources t None) refl e
    where
      go : (o : std.Option ℕ) → get_or sources t None ≡ o → is_some o ≡ false → source_at (told_by sources vars) t ≡ unreached
      go (Some u) q z = never refl z
      go None q z = rw q

module _ {out₀ out : List ℕ} {rule : Rule} {tb : Tables} {from at number t : ℕ} (n : Naming out₀ out rule tb from at number t) where
  -- What the writer of its variables asks.
  pub naming_room : length rule.structures ≤ structure_limit → t < length rule.structures → number + field_limit ≤ variable_limit
  naming_room k h = let f = n.few in omega arith

  pub naming_pass : source_at tb t ≡ unreached → Naming out₀ out rule tb from at number (t + 1)
  unfolding news_to
  naming_pass r =
      let f = n.few in let q : t + 1 ≡ suc t = omega arith in
      let u : ltb (source_at tb t) unreached ≡ false = le-ltb (source_at tb t) unreached (omega arith) in
      record { put = rw (q, u, append-nil) n.put; count = rw (q, u, append-nil) n.count; few = omega arith }

  pub naming_next : {out' : List ℕ} {r next : ℕ} → source_at tb t < unreached
      → Put out out' (record_bytes (each variable_field (new_in (structure_at rule t) number (row_at tb t)))) at r
      → next ≡ number + length (new_in (structure_at rule t) number (row_at tb t))
      → length (new_in (structure_at rule t) number (row_at tb t)) ≤ field_limit → Naming out₀ out' rule tb from r next (t + 1)
  unfolding news_to
  naming_next z p s l =
      let f = n.few in
      let q : t + 1 ≡ suc t = omega arith in
      record {
        put = rw (q, lt-ltb (source_at tb t) unreached z, ← n.count, each_append, record_append) (then n.put p);
        count = rw (q, lt-ltb (source_at tb t) unreached z, ← n.count, length-append, ← n.count) s;
        few = omega arith;
      }

-- All of them.
pub naming_all : {out₀ out : List ℕ} {rule : Rule} {sources : List (std.Option ℕ)} {vars : List (List ℕ)} {from at number t n : ℕ}
    → Naming out₀ out rule (told_by sources vars) from at number t → t ≤ n → n ≤ t
    → (tb : Tables) → tb.sources ≡ sources → tb.vars ≡ vars → Put out₀ out (record_bytes (each variable_field (news_to rule tb n))) from at
naming_all {rule = rule} {t = t} {n = n} a l g tb s v = let q : n ≡ t = omega arith in rw (q, ← news_told rule tb t, s, v) a.put

-- Where the walk ended they are those of its state.
pub variables_put : (bytes : List ℕ) {types : List ℕ} {tb : Tables} {x : ReachBy} {state : State} {out₀ out : List ℕ} {from r n : ℕ}
    → reach_by bytes tb types ≡ x → EndsIn x state → n ≡ length x.rule.structures
    → Put out₀ out (record_bytes (each variable_field (news_to (rule_at bytes) tb n))) from r
    → Put out₀ out (record_bytes (each variable_field state.variables)) from r
variables_put bytes v e n p = rw (e.variables, ← n, ← v) p

-- What they ask is there.
pub numbered : {bytes index types : List ℕ} {tb : Tables} → Leaves bytes index tb types → Numbered bytes index tb.sources
numbered l = record { laid = λ k h. (l.sounds k h).laid; few = l.ended.ties.few; small = l.ended.ties.sources_small.small }
