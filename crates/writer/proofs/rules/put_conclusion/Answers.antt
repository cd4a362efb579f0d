use Rattle.writer.proofs.rules.put_conclusion.Goals as goal

pub returns-clause-put : goal.returns-clause-put
returns-clause-put c = λ x q. (rw c.reached.ensures.value at c.put_reached_conclusion.ensures.put) c.args.w.now.state x c.reached.ensures.walks q
