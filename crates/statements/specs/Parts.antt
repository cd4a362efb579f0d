-- Rows and elements as statements.
use Rattle.std.specs.Prelude.{List, [], ◌∷◌, ℕ}
use Rattle.definition.specs.Base.{keep, each, but_last}
use Rattle.definition.specs.Group.{Statement}
use Rattle.definition.specs.Kinds.{Side, variable_in}
use Rattle.definition.specs.Letters.{predicate, function, type_set, func_domain}
use Rattle.definition.specs.Rows.{members, row_statement, type_sets}
use Rattle.definition.specs.Rule.{Structure, Element, Row}
use Rattle.flags.specs.declared.Mask.{Mask}
use Rattle.statements.specs.Said.{flagged, member_flag}
use Rattle.statements.specs.declared.masks.SaidAs.{SaidAs}
use Rattle.statements.specs.declared.masks.SaidAs.TheVariants.{Predicates, Functions, Domains}

-- A structure's rows that are said so.
abbrev pub rows_as : SaidAs → Structure → List Row
rows_as Predicates st = st.pred_rows
rows_as Functions st = st.func_rows
rows_as Domains st = st.func_rows

-- What is said of a row: of a domain, the function and all elements but the result.
abbrev pub part_as : SaidAs → Row → Row
part_as Predicates r = r
part_as Functions r = r
part_as Domains r = record { kind = func_domain; symbol = r.symbol; elements = but_last r.elements }

-- A row with another kind, and the kind that rows are said as.
abbrev pub of_kind : ℕ → Row → Row
of_kind kind r = record { kind = kind; symbol = r.symbol; elements = r.elements }

abbrev pub kind_said : SaidAs → ℕ
kind_said Predicates = predicate
kind_said Functions = function
kind_said Domains = func_domain

-- The flagged rows, said so, of their own kind or of any; the flagged member rows; the TypeSets of elements.
unfoldable pub rows_said : Side → SaidAs → Mask → List Statement
rows_said side said mask = each (λ (r : Row). row_statement (variable_in side) (part_as said r)) (flagged mask (rows_as said side.structure))

unfoldable pub rows_kinded : Side → (Row → ℕ) → SaidAs → Mask → List Statement
rows_kinded side kinds said mask =
    each (λ (r : Row). row_statement (variable_in side) (of_kind (kinds r) (part_as said r))) (flagged mask (rows_as said side.structure))

abbrev pub members_said : Side → Mask → List Statement
members_said side mask = each (row_statement (variable_in side)) (keep (member_flag side.structure mask) (members side.structure))

abbrev pub types_said : Side → List Element → List Statement
types_said side els = type_sets (variable_in side) els

-- The TypeSet of a variable with a type.
unfoldable pub type_set_of : ℕ → ℕ → Statement
type_set_of type v = record { kind = type_set; symbol = type; variables = v ∷ [] }
