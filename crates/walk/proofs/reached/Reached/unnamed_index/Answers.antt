use Rattle.walk.proofs.reached.Reached.unnamed_index.Goals as goal

pub rule_index-requires : goal.rule_index-requires
rule_index-requires c = c.self.invariant.headed
