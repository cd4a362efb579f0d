use Rattle.writer.proofs.premise.put_own.Goals as goal

pub returns-clause-put : goal.returns-clause-put
returns-clause-put c = (rw c.reached.ensures.value at c.put_reached_own.ensures.put) c.args.w.now.state c.reached.ensures.walks
