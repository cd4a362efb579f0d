-- The step of a map is that of the form that a program has.
use mathlib.Core.Path.{◌≡◌, refl}
use mathlib.Core.Bool.{Bool, true, false}
use mathlib.Core.Option.{Option, none, some}
use mathlib.Core.List.{List, [], ◌∷◌, ◌++◌, append-nil}
use Prim.Native.Nat.{ℕ}
use Rattle.definition.specs.Base.{refused, accepted, pick, each, all, but_last}
use Rattle.definition.specs.Signature.{Signature}
use Rattle.definition.specs.Rule.{Row, Pair, MorphismKind, If, SurjThen, NonSurjThen, Noop}
use Rattle.definition.specs.Group.{Variable, Statement}
use Rattle.definition.specs.Rows.{row_statement, in_image}
use Rattle.definition.specs.Kinds.{
  Side,
  variable_in,
  Step,
  unless,
  new_elements,
  if_statements,
  surj_conclusion,
  yielding_row,
  domain_statement,
  domain_step,
  non_surj_step,
  if_step,
  surj_step,
  map_step,
}
use Rattle.laws.specs.Steps.{emitted, row_fault, new_fault, step_fault, row_for, row_own, row_conclusions, own, conclusions, step_with}

module _ (sig : Signature) (table : List Variable) (source target : Side) (pairs : List Pair) where
  unless_same : (o : Option ℕ) (a b : Step) → a ≡ b → unless o a ≡ unless o b
  unless_same o a b e = rw e

  surj_form : (statements : List Statement)
      → record { statements = statements; emitted = emitted statements (surj_conclusion table source target pairs) ∷ [] }
      ≡ step_with statements [] (surj_conclusion table source target pairs ∷ [])
  unfolding each
  surj_form statements = rw append-nil

  if_form : (statements : List Statement)
      → record { statements = statements ++ if_statements sig table source target pairs; emitted = [] }
      ≡ step_with statements (if_statements sig table source target pairs) []
  unfolding each
  if_form statements = refl

  row_form : (statements : List Statement) (o : Option Row)
      → domain_step target pairs statements o ≡ unless (row_fault pairs o) (step_with statements (row_own target o) (row_conclusions target o))
  unfolding domain_step row_fault each
  row_form statements none = refl
  row_form statements (some r) = go (all (in_image pairs) (but_last r.elements))
    where
      go : (b : Bool) → pick b (accepted (record {
        statements = statements ++ (row_statement (variable_in target) r ∷ []);
        emitted = emitted statements (domain_statement target r ∷ []) ∷ [];
      })) (refused 30)
          ≡ unless (pick b none (some 30)) (step_with statements (row_own target (some r)) (row_conclusions target (some r)))
      go true = refl
      go false = refl

  new_form : (statements : List Statement) (es : List ℕ)
      → non_surj_step target pairs statements es
      ≡ unless (new_fault target pairs es) (step_with statements (row_own target (row_for target es)) (row_conclusions target (row_for target es)))
  unfolding non_surj_step new_fault row_for each
  new_form statements [] = rw append-nil
  new_form statements (e ∷ []) = row_form statements (yielding_row target e)
  new_form statements (e ∷ d ∷ es) = refl

  -- The step, in that form.
  pub step_form : (kind : MorphismKind) (statements : List Statement)
      → map_step sig table source target pairs kind statements
      ≡ unless (step_fault table source target pairs kind)
      (step_with statements (own sig table source target pairs kind) (conclusions table source target pairs kind))
  unfolding map_step step_fault own conclusions if_step surj_step
  step_form If statements = unless_same (step_fault table source target pairs If) _ _ (if_form statements)
  step_form Noop statements = unless_same (step_fault table source target pairs Noop) _ _ (if_form statements)
  step_form SurjThen statements = unless_same (step_fault table source target pairs SurjThen) _ _ (surj_form statements)
  step_form NonSurjThen statements = new_form statements (new_elements target pairs)
