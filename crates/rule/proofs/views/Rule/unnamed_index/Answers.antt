use Rattle.rule.proofs.Opening.{headed}
use Rattle.rule.proofs.views.Rule.unnamed_index.Goals as goal

pub rule_index-requires : goal.rule_index-requires
rule_index-requires c = headed _ _ c.self.invariant.read
