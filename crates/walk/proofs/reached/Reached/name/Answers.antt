use Rattle.walk.proofs.reached.Reached.name.Goals as goal

pub rule_name-requires : goal.rule_name-requires
rule_name-requires c = c.self.invariant.headed
