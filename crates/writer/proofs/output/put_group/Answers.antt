use Rattle.writer.proofs.output.put_group.Goals as goal

pub returns-clause-put : goal.returns-clause-put
returns-clause-put c = (rw c.reached.ensures.value at c.put_reached_group.ensures.put) c.args.w.now.state c.reached.ensures.walks
