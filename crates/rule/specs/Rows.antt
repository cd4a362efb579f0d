-- The R and A fields of a structure: rows of a symbol and elements.
use Rattle.std.specs.Prelude.{ℕ, ◌+◌, ◌*◌, ◌%◌, ◌≤◌, ◌<◌, Bool, not, List, ◌≡◌, eqb, length}
use Rattle.definition.specs.Base.{pick, keep, each, empty, ◌∈◌}
use Rattle.definition.specs.Letters.{predicate}
use Rattle.definition.specs.Limits.{field_limit, column_limit}
use Rattle.definition.specs.Records.{Field}
use Rattle.definition.specs.Rule.{Element, Row, row_of}
use Rattle.definition.specs.Rows.{member_row}
use Rattle.definition.specs.Signature.{Signature, Symbol, pred_of, func_of}
use Rattle.records.specs.Places.{Run}

-- A row's field: a symbol and at most 8 elements.
pub record RowSized (f : Field) : Type 0 where
  pub least : 2 ≤ length f.content
  pub most : length f.content ≤ 2 + 2 * column_limit
  pub even : length f.content % 2 ≡ 0

-- A section of rows: at most 64 such fields, which stand from one position to another.
pub record RowsFrom (s : List ℕ) (from end : ℕ) : Type 0 where
  pub fields : List Field
  pub run : Run s from end fields
  pub few : length fields ≤ field_limit
  pub sized : (f : Field) → f ∈ fields → RowSized f

-- Rows of one kind, those of one symbol of one length.
pub record Alike (kind : ℕ) (columns : ℕ → ℕ) (rows : List Row) : Type 0 where
  pub same : (r : Row) → r ∈ rows → (r.kind ≡ kind) × (length r.elements ≡ columns r.symbol)

abbrev pub row_symbol : Signature → ℕ → ℕ → Symbol
row_symbol sig kind symbol = pick (eqb kind predicate) (pred_of sig symbol) (func_of sig symbol)

-- A section of rows whose symbols are known, with at least their parents.
pub record RowsKnown (sig : Signature) (symbols kind : ℕ) (s : List ℕ) (from end : ℕ) : Type 0 where
  pub rows : RowsFrom s from end
  pub named : (f : Field) → f ∈ rows.fields → (row_of kind f).symbol < symbols
  pub parents : (f : Field) → f ∈ rows.fields → length (row_symbol sig kind (row_of kind f).symbol).parents ≤ length (row_of kind f).elements

-- The member rows of elements, in the elements' order.
abbrev pub has_parents : Element → Bool
has_parents e = not (empty e.parents)

unfoldable pub member_rows : List Element → List Row
member_rows els = each member_row (keep has_parents els)
