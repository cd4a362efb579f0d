use Rattle.statements.proofs.equalities.put_equalities.Goals as goal

pub returns-clause-put : goal.returns-clause-put
returns-clause-put c = rw (c.letter.ensures, c.link.ensures.value) at c.put_equalities_bytes.ensures.put
