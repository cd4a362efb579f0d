-- What a map of each kind leads to, in one form.
use mathlib.Core.Path.{◌≡◌, refl, ap}
use mathlib.Core.Logic.{◌⊎◌, inl, inr}
use mathlib.Core.List.{List, [], ◌∷◌}
use Rattle.definition.specs.Rule.{If, SurjThen, NonSurjThen, Noop}
use Rattle.definition.specs.Group.{Variable, Statement}
use Rattle.rule.specs.Lookup.{kind_is}
use Rattle.rule.specs.declared.tail.MorphismKind as read
use Rattle.rule.specs.declared.tail.MorphismKind.TheVariants as kind
use Rattle.kinds.specs.Steps.{StepBy, IfDoes, SurjDoes, NonSurjDoes}
use Rattle.std.proofs.Common.{Result, Ok, Err}
use Rattle.records.specs.declared.refusal.Refusal.{Refusal}
use Rattle.statements.specs.declared.masks.Masks.{Masks}
use Rattle.laws.specs.Steps.{own, conclusions}
use Rattle.walk.specs.Tables.{own_by, concluded_by}
use Rattle.walk.specs.Went.{Does}

module _ (y : StepBy) (table : List Variable) where
  surj_form : (r : Result Masks Refusal) → SurjDoes y table r → Does y table SurjThen r
  unfolding own conclusions own_by concluded_by
  surj_form (Err n) d = record { is = d.is }
  surj_form (Ok masks) d = record { is = (d.is.0, (refl, ap (λ (x : List Statement). x ∷ []) d.is.1)) }

  pub surj_does : {n : read.MorphismKind} (r : Result Masks Refusal) → SurjDoes y table r → n ≡ kind.SurjThen → Does y table (kind_is n) r
  surj_does r d e = rw e (surj_form r d)

  non_surj_form : (r : Result Masks Refusal) → NonSurjDoes y table r → Does y table NonSurjThen r
  unfolding own_by concluded_by
  non_surj_form (Err n) d = record { is = d.is }
  non_surj_form (Ok masks) d = record { is = (d.is.0, (d.is.1.0, d.is.1.1)) }

  pub non_surj_does : {n : read.MorphismKind} (r : Result Masks Refusal) → NonSurjDoes y table r → n ≡ kind.NonSurjThen → Does y table (kind_is n) r
  non_surj_does r d e = rw e (non_surj_form r d)

  if_form : (r : Result Masks Refusal) → IfDoes y table If r → Does y table If r
  unfolding own conclusions own_by concluded_by
  if_form (Err n) d = record { is = d.is }
  if_form (Ok masks) d = record { is = (d.is.0, (d.is.1, refl)) }

  noop_form : (r : Result Masks Refusal) → IfDoes y table Noop r → Does y table Noop r
  unfolding own conclusions own_by concluded_by
  noop_form (Err n) d = record { is = d.is }
  noop_form (Ok masks) d = record { is = (d.is.0, (d.is.1, refl)) }

  pub if_does : {n : read.MorphismKind} (r : Result Masks Refusal) → IfDoes y table If r × IfDoes y table Noop r → (n ≡ kind.If) ⊎ (n ≡ kind.Noop)
      → Does y table (kind_is n) r
  if_does r d (inl q) = rw q (if_form r d.0)
  if_does r d (inr q) = rw q (noop_form r d.1)
