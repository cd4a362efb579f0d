-- The rule that the map into a structure emits: whether there is one, its name's field, and its statements.
use Rattle.std.specs.Prelude.{ℕ, Bool, List, ◌∷◌, ◌++◌, ◌≡◌, length}
use Rattle.std.specs.Prelude as std
use Rattle.std.proofs.Math.Option.{Option}
use Rattle.definition.specs.Base.{pick}
use Rattle.definition.specs.Group.{Variable, Statement}
use Rattle.definition.specs.Letters.{letter_u, letter_b, letter_h, underscore}
use Rattle.definition.specs.Names.{decimal}
use Rattle.definition.specs.Records.{Field}
use Rattle.definition.specs.Rule.{Rule}
use Rattle.definition.specs.Walk.{Reached, group_name}
use Rattle.plan.specs.Table.{Entry, Entries, kind_in, kinds_all, Tabled}
use Rattle.walk.specs.declared.tables.StructureMasks.{StructureMasks}
use Rattle.walk.specs.declared.tables.Tables.{Tables}
use Rattle.walk.specs.Tables.{reached_by, concluded_at, before}
use Rattle.laws.specs.Bytes.{statement_bytes}

abbrev pub name_field : Rule → ℕ → Field
name_field rule count = record { letter = letter_u; content = group_name rule ++ (underscore ∷ decimal count) }

abbrev pub body_bytes : List (Option Reached) → Tables → ℕ → List Statement → List ℕ
body_bytes slots tb t conclusion = statement_bytes letter_b (before slots tb t) ++ statement_bytes letter_h conclusion

-- The kind by which a structure was reached, by a table of kinds and the sources: of any rule that has these kinds, that kind.
pub record ReachedBy (r : Entry) (kinds : Entries) (sources : List (std.Option ℕ)) (t : ℕ) : Type 0 where
  pub is : (rule : Rule) (tb : Tables) → tb.sources ≡ sources → Tabled kinds (kinds_all rule) → kind_in r ≡ reached_by rule tb t

-- Whether the map by which it was reached emits a rule: of any rule that has these kinds, it has one conclusion, or none.
pub record Emits (r : Bool) (kinds : Entries) (sources : List (std.Option ℕ)) (masks : List StructureMasks) (t : ℕ) : Type 0 where
  pub is : (table : List Variable) (rule : Rule) (tb : Tables) → tb.sources ≡ sources → tb.masks ≡ masks → Tabled kinds (kinds_all rule)
      → length (concluded_at table rule tb t) ≡ pick r 1 0
