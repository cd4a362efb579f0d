use Rattle.writer.proofs.premise.put_both.Goals as goal

pub returns-clause-put : goal.returns-clause-put
returns-clause-put c = (rw (c.letter.ensures, c.reached.ensures.value) at c.put_reached_both.ensures.put) c.args.w.now.state c.reached.ensures.walks
