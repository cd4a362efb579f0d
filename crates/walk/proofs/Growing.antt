-- A structure is reached: what the tables said of the others they say still.
use Prim.Native.Nat.{ℕ, ◌<◌}
use mathlib.Core.Path.{◌≡◌, ap, sym, ◌∙◌}
use mathlib.Core.Option.{Option, none, some}
use mathlib.Core.List.{List, [], ◌++◌}
use lib.ListN.{length, set, get_or, get_or-append}
use lib.Seq.{get_or-set_same, get_or-set_other}
use Rattle.definition.specs.Base.{◌∈◌}
use Rattle.definition.specs.Rule.{Rule, Pair}
use Rattle.definition.specs.Group.{Variable}
use Rattle.definition.specs.Kinds.{Side, variable_in, type_in, kernel_variables, equalities}
use Rattle.definition.specs.Walk.{Reached, structure_at}
use Rattle.laws.proofs.Lists.{mem_each}
use Rattle.laws.proofs.Fibers.{kernel_in}
use Rattle.naming.specs.Variables.{GivenOut}
use Rattle.walk.specs.declared.tables.Tables.{Tables}
use Rattle.walk.specs.declared.tables.StructureMasks.{StructureMasks}
use Rattle.walk.specs.Tables.{source_by, source_at, row_at, with_rows, no_masks, masks_at, merged_at, pairs_on, Keyed, reached_by, equalities_at, said_at}
use Rattle.walk.specs.Tables.{domains_at, own_at, concluded_at, statements_of, statements_at, before}
use Rattle.std.specs.Prelude.{Some, None}
use Rattle.laws.proofs.Choices.{each_alike}

-- The type of a variable stays when others are given out.
pub type_stays : (table news : List Variable) (v : ℕ) → v < length table → type_in (table ++ news) v ≡ type_in table v
unfolding type_in
type_stays table news v h = ap (λ (x : Variable). x.type) (get_or-append table news (record { type = 0; name = [] }) v h)

-- Equalities stay.
pub equalities_stay : (table news : List Variable) (source target : Side) (pairs : List Pair)
    → ((p : Pair) → p ∈ pairs → variable_in source p.key < length table)
    → equalities (table ++ news) source target pairs ≡ equalities table source target pairs
unfolding equalities kernel_variables
equalities_stay table news source target pairs h =
    each_alike _ _ (kernel_variables source target pairs)
    (λ p m.
    let r = mem_each (λ (q : Pair). record { key = variable_in source q.key; image = variable_in source q.image }) _ m in
    let k = kernel_in pairs target.structure r.1 in
    let e : p.key ≡ variable_in source k.0.key = ap (λ (q : Pair). q.key) r.2 ∙ ap (variable_in source) k.4 in
    let l : p.key < length table = rw e (h k.0 k.2) in
    rw (type_stays table news p.key l))

-- The tables with a structure more.
abbrev pub grown : Tables → ℕ → ℕ → StructureMasks → List ℕ → Tables
grown tb target source ms row = record { sources = set tb.sources target (Some source); masks = set tb.masks target ms; vars = set tb.vars target row }

module _ (tb : Tables) (target source : ℕ) (ms : StructureMasks) (row : List ℕ) where
  pub source_other : (k : ℕ) → (k ≡ target → ⊥) → source_at (grown tb target source ms row) k ≡ source_at tb k
  unfolding source_at
  source_other k d = ap source_by (get_or-set_other tb.sources target k (Some source) None d)

  pub row_other : (k : ℕ) → (k ≡ target → ⊥) → row_at (grown tb target source ms row) k ≡ row_at tb k
  unfolding row_at
  row_other k d = get_or-set_other tb.vars target k row [] d

  pub masks_other : (k : ℕ) → (k ≡ target → ⊥) → masks_at (grown tb target source ms row) k ≡ masks_at tb k
  unfolding masks_at
  masks_other k d = ap (λ (m : StructureMasks). m.said) (get_or-set_other tb.masks target k ms no_masks d)

  pub merged_other : (k : ℕ) → (k ≡ target → ⊥) → merged_at (grown tb target source ms row) k ≡ merged_at tb k
  unfolding merged_at
  merged_other k d = ap (λ (m : StructureMasks). m.merged) (get_or-set_other tb.masks target k ms no_masks d)

  pub source_same : target < length tb.sources → source_at (grown tb target source ms row) target ≡ source
  unfolding source_at
  source_same h = ap source_by (get_or-set_same tb.sources target (Some source) None h)

  pub row_same : target < length tb.vars → row_at (grown tb target source ms row) target ≡ row
  unfolding row_at
  row_same h = get_or-set_same tb.vars target row [] h

  -- Among other rows the new one stands as well.
  pub rows_same : target < length tb.vars → (vars : List (List ℕ))
      → with_rows (grown tb target source ms row) (set vars target (row_at (grown tb target source ms row) target))
      ≡ grown (with_rows tb vars) target source ms row
  rows_same h vars = ap (grown (with_rows tb vars) target source ms) (row_same h)

-- A row read in the tables, among other rows.
pub row_among : (tb : Tables) (source : ℕ) (vars : List (List ℕ)) → get_or vars source [] ≡ row_at tb source
    → get_or tb.vars source [] ≡ get_or vars source []
unfolding row_at
row_among tb source vars e = sym e

module _ (tb : Tables) (target source : ℕ) (ms : StructureMasks) (row : List ℕ) where
  pub masks_same : target < length tb.masks → masks_at (grown tb target source ms row) target ≡ ms.said
  unfolding masks_at
  masks_same h = ap (λ (m : StructureMasks). m.said) (get_or-set_same tb.masks target ms no_masks h)

  pub merged_same : target < length tb.masks → merged_at (grown tb target source ms row) target ≡ ms.merged
  unfolding merged_at
  merged_same h = ap (λ (m : StructureMasks). m.merged) (get_or-set_same tb.masks target ms no_masks h)

-- A structure reached before stays as it was.
module _ (rule : Rule) (keyed : Keyed rule) (table news : List Variable) (tb : Tables) (target source : ℕ) (ms : StructureMasks) (row : List ℕ) (k : ℕ)
    (d : k ≡ target → ⊥) (e : source_at tb k ≡ target → ⊥)
    (given : GivenOut (structure_at rule (source_at tb k)) (row_at tb (source_at tb k)) (length table)) where
  abbrev more : Tables
  more = grown tb target source ms row

  said_stays : said_at rule more k ≡ said_at rule tb k
  unfolding said_at
  said_stays = rw (row_other tb target source ms row k d, masks_other tb target source ms row k d)

  domains_stay : domains_at rule more k ≡ domains_at rule tb k
  unfolding domains_at
  domains_stay = rw (row_other tb target source ms row k d, masks_other tb target source ms row k d)

  kind_stays : reached_by rule more k ≡ reached_by rule tb k
  unfolding reached_by
  kind_stays = rw (source_other tb target source ms row k d)

  equalities_at_lem : equalities_at (table ++ news) rule more k ≡ equalities_at table rule tb k
  unfolding equalities_at
  equalities_at_lem =
      rw (source_other tb target source ms row k d, row_other tb target source ms row k d, row_other tb target source ms row (source_at tb k) e)
      (equalities_stay table news _ _ (pairs_on rule (source_at tb k) k) (λ p m. given.below p.key (keyed (source_at tb k) k p m)))

  pub own_stays : own_at (table ++ news) rule more k ≡ own_at table rule tb k
  unfolding own_at
  own_stays = rw (kind_stays, equalities_at_lem, said_stays)

  pub concluded_stays : concluded_at (table ++ news) rule more k ≡ concluded_at table rule tb k
  unfolding concluded_at
  concluded_stays = rw (kind_stays, equalities_at_lem, said_stays, domains_stay, masks_other tb target source ms row k d)

-- The statements of another slot.
module _ (slots : List (Option Reached)) (tb : Tables) (target source : ℕ) (ms : StructureMasks) (row : List ℕ) (r : Reached) where
  pub statements_other : (k : ℕ) → (k ≡ target → ⊥) → statements_at (set slots target (some r)) k ≡ statements_at slots k
  unfolding statements_at
  statements_other k d = ap statements_of (get_or-set_other slots target k (some r) none d)

  pub before_stays : (k : ℕ) → (k ≡ target → ⊥) → (source_at tb k ≡ target → ⊥)
      → before (set slots target (some r)) (grown tb target source ms row) k ≡ before slots tb k
  unfolding before
  before_stays k d e = rw (source_other tb target source ms row k d, statements_other (source_at tb k) e)
