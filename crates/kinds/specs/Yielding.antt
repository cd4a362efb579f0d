-- The A row that yields an element.
use Rattle.std.specs.Prelude.{ℕ, ◌<◌, List, ◌≡◌, Option, Some, None, length, get_or}
use Rattle.std.proofs.Math.Option.{none, some}
use Rattle.definition.specs.Base.{first_of}
use Rattle.definition.specs.Kinds.{yields}
use Rattle.definition.specs.Rule.{Row}
use Rattle.rule.specs.Row.{row_from}
use Rattle.rows.specs.Table.{no_row}
use Rattle.kinds.specs.declared.yielding.Yielding.{Yielding}

-- The first whose last element is the given one, and its place.
abbrev YieldsAs : Option Yielding → ℕ → List Row → Type 0
YieldsAs None e rows = first_of (yields e) rows ≡ none
YieldsAs (Some y) e rows =
    (y.place < length rows) × (get_or rows y.place no_row ≡ row_from y.row) × (first_of (yields e) rows ≡ some (row_from y.row))

pub record Yields (r : Option Yielding) (e : ℕ) (rows : List Row) : Type 0 where
  pub is : YieldsAs r e rows
