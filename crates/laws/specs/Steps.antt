-- The step of a map in the form that a program has: a refusal that asks nothing of the statements, what the target appends to
-- them, and the conclusions of the rules that it emits.
use Rattle.std.specs.Prelude.{not, List, [], ◌∷◌, ◌++◌, ℕ}
use Rattle.std.proofs.Math.Option.{Option, none, some}
use Rattle.definition.specs.Base.{pick, each, all, but_last, lowest, empty}
use Rattle.definition.specs.Signature.{Signature}
use Rattle.definition.specs.Rule.{Row, Pair, MorphismKind, If, SurjThen, NonSurjThen, Noop}
use Rattle.definition.specs.Group.{Variable, Statement}
use Rattle.definition.specs.Rows.{row_statement, in_image}
use Rattle.definition.specs.Kinds.{
  Side,
  variable_in,
  Emitted,
  Step,
  kernel_clashes,
  row_unmapped,
  new_elements,
  if_statements,
  surj_conclusion,
  yielding_row,
  domain_statement,
}

-- A rule that is emitted: the source's statements, and a conclusion.
abbrev pub emitted : List Statement → List Statement → Emitted
emitted statements conclusion = record { premise = statements; conclusion = conclusion }

-- 29 and 30, of the row that yields the one new element.
unfoldable pub row_fault : List Pair → Option Row → Option ℕ
row_fault pairs none = some 29
row_fault pairs (some r) = pick (all (in_image pairs) (but_last r.elements)) none (some 30)

-- 28 to 30, by the new elements.
unfoldable pub new_fault : Side → List Pair → List ℕ → Option ℕ
new_fault target pairs [] = none
new_fault target pairs (e ∷ []) = row_fault pairs (yielding_row target e)
new_fault target pairs (e ∷ d ∷ es) = some 28

-- The row that yields the new element, where there is one.
unfoldable pub row_for : Side → List ℕ → Option Row
row_for target [] = none
row_for target (e ∷ []) = yielding_row target e
row_for target (e ∷ d ∷ es) = none

-- What that row says, and the conclusions that it leads to.
abbrev pub row_own : Side → Option Row → List Statement
row_own target none = []
row_own target (some r) = row_statement (variable_in target) r ∷ []

abbrev pub row_conclusions : Side → Option Row → List (List Statement)
row_conclusions target none = []
row_conclusions target (some r) = (domain_statement target r ∷ []) ∷ []

-- The step that appends so much and emits such conclusions.
abbrev pub step_with : List Statement → List Statement → List (List Statement) → Step
step_with statements more concluded = record { statements = statements ++ more; emitted = each (emitted statements) concluded }

-- The refusal of a map: 25 to 30.
unfoldable pub step_fault : List Variable → Side → Side → List Pair → MorphismKind → Option ℕ
step_fault table source target pairs If = lowest ((25, kernel_clashes table source target pairs) ∷ (26, row_unmapped source pairs) ∷ [])
step_fault table source target pairs Noop = lowest ((25, kernel_clashes table source target pairs) ∷ (26, row_unmapped source pairs) ∷ [])
step_fault table source target pairs SurjThen = lowest ((25, kernel_clashes table source target pairs) ∷ (26, row_unmapped source pairs)
    ∷ (27, not (empty (new_elements target pairs))) ∷ [])
step_fault table source target pairs NonSurjThen = new_fault target pairs (new_elements target pairs)

-- What the target appends to the source's statements.
unfoldable pub own : Signature → List Variable → Side → Side → List Pair → MorphismKind → List Statement
own sig table source target pairs If = if_statements sig table source target pairs
own sig table source target pairs Noop = if_statements sig table source target pairs
own sig table source target pairs SurjThen = []
own sig table source target pairs NonSurjThen = row_own target (row_for target (new_elements target pairs))

-- The conclusions of the rules that the map emits.
unfoldable pub conclusions : List Variable → Side → Side → List Pair → MorphismKind → List (List Statement)
conclusions table source target pairs If = []
conclusions table source target pairs Noop = []
conclusions table source target pairs SurjThen = surj_conclusion table source target pairs ∷ []
conclusions table source target pairs NonSurjThen = row_conclusions target (row_for target (new_elements target pairs))
