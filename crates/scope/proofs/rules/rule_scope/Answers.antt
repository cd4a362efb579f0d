use mathlib.Core.Path.{sym, ◌∙◌}
use Rattle.scope.proofs.InOrder.{no_conclusion, by_first, has_first, owners_from}
use Rattle.group.proofs.Given.{stretch_behind}
use Rattle.scope.proofs.rules.rule_scope.Goals as goal

pub returns-in_default-clause-result_value : goal.returns-in_default-clause-result_value
returns-in_default-clause-result_value c = λ x w. no_conclusion _ _ w (sym c.statements-conclusions.ensures.left ∙ c.in_default.ensures.steps.0)

pub output_scope-requires-clause-stands : goal.output_scope-requires-clause-stands
output_scope-requires-clause-stands c =
    let step = c.in-Some.ensures.steps in
    let from = c.statements-conclusions.ensures.from in
    let rule = c.args.rule.stands in
    rw (from, rule.same) at step.same ∙ stretch_behind _ _ _ _ _ (rw from at step.within)

pub returns-clause-result_value : goal.returns-clause-result_value
returns-clause-result_value c = λ x w.
    c.output_scope.ensures.result_value x w ∙ by_first _ _ w (sym c.statements-conclusions.ensures.left ∙ c.in-Some.ensures.steps.first)

pub returns-clause-owners_from : goal.returns-clause-owners_from
returns-clause-owners_from c =
    owners_from c.args.rule _ (has_first c.args.rule (sym c.statements-conclusions.ensures.left ∙ c.in-Some.ensures.steps.first)) _ c.output_scope.ensures.leads
