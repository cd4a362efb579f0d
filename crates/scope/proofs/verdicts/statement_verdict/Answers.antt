use mathlib.Core.Path.{sym, ◌∙◌}
use Rattle.group.specs.Views.{statement_from}
use Rattle.scope.proofs.Settling.{by_prefix}
use Rattle.scope.proofs.verdicts.statement_verdict.Goals as goal

pub returns : goal.returns
returns c =
    c.compared.ensures ∙ rw c.shared_count.ensures
    (sym (by_prefix c.args.side _ _ _ _ (statement_from c.args.t) _ (sym c.in-Some.ensures.result_value) (sym c.if-not-suits.ensures)))
