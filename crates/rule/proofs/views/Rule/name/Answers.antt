use Rattle.rule.proofs.Opening.{headed}
use Rattle.rule.proofs.views.Rule.name.Goals as goal

pub rule_name-requires : goal.rule_name-requires
rule_name-requires c = headed _ _ c.self.invariant.read
