-- The rows that are read from a section, as the definition's.
use Rattle.std.specs.Prelude.{ℕ, List, ◌≡◌}
use Rattle.definition.specs.Base.{each}
use Rattle.definition.specs.Letters.{predicate, function}
use Rattle.definition.specs.Rule as definition
use Rattle.definition.specs.Rule.{row_of}
use Rattle.records.specs.Iter.{fields_left}
use Rattle.signature.specs.Relations.{kind_of, number_of}
use Rattle.rule.specs.Els.{els_in}
use Rattle.rule.specs.declared.row.Row.{Row}
use Rattle.rule.specs.declared.row.Rows.{Rows}
use Rattle.rule.specs.declared.row.RowKind.{RowKind}
use Rattle.rule.specs.declared.row.RowKind.TheVariants.{Predicate, Function}

-- The kind of the rows.
abbrev pub row_kind : RowKind → ℕ
row_kind Predicate = predicate
row_kind Function = function

-- A row that was read.
abbrev pub row_from : Row → definition.Row
row_from r = record { kind = kind_of r.relation; symbol = number_of r.relation; elements = els_in r.els }

-- It is what a content says, whatever letter stands before it.
pub record RowOf (kind : RowKind) (content : List ℕ) (r : Row) : Type 0 where
  pub says : (letter : ℕ) → row_from r ≡ row_of (row_kind kind) (record { letter = letter; content = content })

-- The rows that are left to an iterator.
abbrev pub rows_left : Rows → List definition.Row
rows_left it = each (row_of (row_kind it.kind)) (fields_left it.fields)
