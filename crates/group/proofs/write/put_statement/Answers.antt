use Rattle.group.proofs.write.put_statement.Goals as goal

pub returns : goal.returns
returns c = rw (← c.letter.ensures, ← c.kind.ensures, ← c.number.ensures) c.put_statement_bytes.ensures
