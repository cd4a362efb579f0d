use mathlib.Core.Path.{refl, ◌∙◌}
use Rattle.records.proofs.Results.{passed_on}
use Rattle.plan.proofs.TableLaws.{empty_table_lem}
use Rattle.flatten.proofs.Writing.{refused_at_once, planned, same_rule}
use Rattle.flatten.proofs.entry.flatten_rule.Goals as goal

pub new-requires : goal.new-requires
new-requires c = empty_table_lem

pub returns-in_err-plan : goal.returns-in_err-plan
returns-in_err-plan c = rw (passed_on c.from_residual.ensures) (refused_at_once _ (planned _ _ ∙ rw (← c.in_err-plan.ensures) refl))

pub flatten_morphisms-requires : goal.flatten_morphisms-requires
flatten_morphisms-requires c = rw (same_rule c.args.rule.now c.in_ok-plan.ensures) c.requires

pub returns : goal.returns
returns c = rw (planned c.args.rule.now, ← c.in_ok-plan.ensures) c.flatten_morphisms.ensures
