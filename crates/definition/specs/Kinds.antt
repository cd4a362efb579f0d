-- The walk: what a map of each of the four kinds asks, appends, emits and passes on.
use Rattle.std.specs.Prelude.{Bool, not, ◌&&◌, List, [], ◌∷◌, ◌++◌, ℕ, eqb, get_or}
use Rattle.std.proofs.Math.Option.{Option, none, some}
use Rattle.definition.specs.Base.{Outcome, refused, accepted, pick, given, keep, each, any, all, first_of, but_last, lowest, empty}
use Rattle.definition.specs.Letters.{member, equality, func_domain}
use Rattle.definition.specs.Signature.{Signature}
use Rattle.definition.specs.Rule.{Structure, Element, Row, Pair, MorphismKind, If, SurjThen, NonSurjThen, Noop}
use Rattle.definition.specs.Group.{Variable, Statement}
use Rattle.definition.specs.Names.{numbers_of, variable_at}
use Rattle.definition.specs.Rows.{rows_of, row_statement, last_element, type_sets, image_of, in_image, new_rows, kernel_pairs, constrained}

-- A structure with its elements' variables.
pub record Side : Type 0 where
  pub structure : Structure
  pub variables : List ℕ

-- The variable of an element on a side.
abbrev pub variable_in : Side → ℕ → ℕ
variable_in side = variable_at side.structure side.variables

-- 'emits a rule': its premise and conclusion, before it has its name.
pub record Emitted : Type 0 where
  pub premise : List Statement
  pub conclusion : List Statement

-- What a map leads to: the target's statements, and a rule if it emits one.
pub record Step : Type 0 where
  pub statements : List Statement
  pub emitted : List Emitted

-- 'Structure 0's statements: all rows, then TypeSet for each parentless element.'
unfoldable pub initial_statements : Side → List Statement
initial_statements side = each (row_statement (variable_in side)) (rows_of side.structure) ++ type_sets (variable_in side) side.structure.elements

-- Refused with the lowest number that fails, else accepted.
abbrev pub unless : Option ℕ → Step → Outcome Step
unless (some n) step = refused n
unless none step = accepted step

-- The type of a variable, among those given out so far: 'Carried variables keep both.'
unfoldable pub type_in : List Variable → ℕ → ℕ
type_in table v = (get_or table v (record { type = 0; name = [] })).type

-- The kernel pairs of a map, as pairs of variables of the source.
unfoldable pub kernel_variables : Side → Side → List Pair → List Pair
kernel_variables source target pairs = each
    (λ (p : Pair). record { key = variable_in source p.key; image = variable_in source p.image })
    (kernel_pairs pairs target.structure)

-- 'Equality per kernel pair'; its type is the variables' common type, by the variables given out so far.
unfoldable pub equalities : List Variable → Side → Side → List Pair → List Statement
equalities table source target pairs = each
    (λ (p : Pair). record { kind = equality; symbol = type_in table p.key; variables = p.key ∷ p.image ∷ [] })
    (kernel_variables source target pairs)

-- 25: 'two variables of a kernel pair differ in type'.
unfoldable pub kernel_clashes : List Variable → Side → Side → List Pair → Bool
kernel_clashes table source target pairs =
    any (λ (p : Pair). not (eqb (type_in table p.key) (type_in table p.image))) (kernel_variables source target pairs)

-- 26: 'an element of a source row has no image'.
unfoldable pub row_unmapped : Side → List Pair → Bool
row_unmapped source pairs = any (λ (r : Row). any (λ (e : ℕ). not (given (image_of pairs e))) r.elements) (rows_of source.structure)

-- The target's elements outside the image: 27 where SurjThen has one.
unfoldable pub new_elements : Side → List Pair → List ℕ
new_elements target pairs = keep (λ (e : ℕ). not (in_image pairs e)) (numbers_of target.structure)

-- The target's rows that are no image of a source row.
unfoldable pub added_rows : Side → Side → List Pair → List Row
added_rows source target pairs = new_rows pairs (rows_of source.structure) (rows_of target.structure)

-- 'members whose element is constrained'.
unfoldable pub constrained_member : Signature → Side → Row → Bool
constrained_member sig target r = eqb r.kind member && constrained sig target.structure (last_element r)

-- 'elements neither image nor constrained'.
unfoldable pub free_elements : Signature → Side → List Pair → List Element
free_elements sig target pairs = keep
    (λ (e : Element). not (in_image pairs e.number) && not (constrained sig target.structure e.number))
    target.structure.elements

-- 'If and Noop append Equality per kernel pair; target rows that are no image of a source row, without members whose
-- element is constrained; TypeSet for parentless elements neither image nor constrained.'
unfoldable pub if_statements : Signature → List Variable → Side → Side → List Pair → List Statement
if_statements sig table source target pairs = equalities table source target pairs
    ++ each (row_statement (variable_in target)) (keep (λ (r : Row). not (constrained_member sig target r)) (added_rows source target pairs))
    ++ type_sets (variable_in target) (free_elements sig target pairs)

-- 'SurjThen emits a rule: the source's statements; Equality per kernel pair, then every target row that is no image.'
unfoldable pub surj_conclusion : List Variable → Side → Side → List Pair → List Statement
surj_conclusion table source target pairs = equalities table source target pairs
    ++ each (row_statement (variable_in target)) (added_rows source target pairs)

-- A row, where it yields the element.
abbrev pub yields : ℕ → Row → Option Row
yields e r = pick (eqb (last_element r) e) (some r) none

-- 'the first row yielding it': the first A field whose result is the element.
unfoldable pub yielding_row : Side → ℕ → Option Row
yielding_row target e = first_of (yields e) target.structure.func_rows

-- 'FuncDomain of the first row yielding it.'
unfoldable pub domain_statement : Side → Row → Statement
domain_statement target r = record { kind = func_domain; symbol = r.symbol; variables = each (variable_in target) (but_last r.elements) }

-- 29 and 30, else 'NonSurjThen with one new element emits a rule: the source's statements; FuncDomain. It passes on the
-- source's statements, then that function row.'
unfoldable pub domain_step : Side → List Pair → List Statement → Option Row → Outcome Step
domain_step target pairs statements none = refused 29
domain_step target pairs statements (some r) = pick (all (in_image pairs) (but_last r.elements))
    (accepted (record {
      statements = statements ++ (row_statement (variable_in target) r ∷ []);
      emitted = record { premise = statements; conclusion = domain_statement target r ∷ [] } ∷ [];
    }))
    (refused 30)

-- 'With none it emits nothing and passes the statements on unaltered'; 28: two or more.
unfoldable pub non_surj_step : Side → List Pair → List Statement → List ℕ → Outcome Step
non_surj_step target pairs statements [] = accepted (record { statements = statements; emitted = [] })
non_surj_step target pairs statements (e ∷ []) = domain_step target pairs statements (yielding_row target e)
non_surj_step target pairs statements (e ∷ d ∷ es) = refused 28

-- 'If and Noop append': 25, 26, else the source's statements and what is appended.
unfoldable pub if_step : Signature → List Variable → Side → Side → List Pair → List Statement → Outcome Step
if_step sig table source target pairs statements = unless
    (lowest ((25, kernel_clashes table source target pairs) ∷ (26, row_unmapped source pairs) ∷ []))
    (record { statements = statements ++ if_statements sig table source target pairs; emitted = [] })

-- SurjThen: 'Statements pass on unaltered.'
unfoldable pub surj_step : List Variable → Side → Side → List Pair → List Statement → Outcome Step
surj_step table source target pairs statements = unless
    (lowest ((25, kernel_clashes table source target pairs) ∷ (26, row_unmapped source pairs)
    ∷ (27, not (empty (new_elements target pairs))) ∷ []))
    (record { statements = statements; emitted = record { premise = statements; conclusion = surj_conclusion table source target pairs } ∷ [] })

-- A map of each kind from one side to another, with the variables given out so far and the source's statements.
unfoldable pub map_step : Signature → List Variable → Side → Side → List Pair → MorphismKind → List Statement → Outcome Step
map_step sig table source target pairs If statements = if_step sig table source target pairs statements
map_step sig table source target pairs Noop statements = if_step sig table source target pairs statements
map_step sig table source target pairs SurjThen statements = surj_step table source target pairs statements
map_step sig table source target pairs NonSurjThen statements = non_surj_step target pairs statements (new_elements target pairs)
