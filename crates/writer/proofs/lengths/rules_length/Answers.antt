use Rattle.writer.proofs.lengths.rules_length.Goals as goal

pub returns-clause-put : goal.returns-clause-put
returns-clause-put c = (rw c.reached.ensures.value at c.reached_rules_length.ensures.put) c.args.w.now.state c.reached.ensures.walks
