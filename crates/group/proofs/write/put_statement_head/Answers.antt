use Rattle.group.proofs.write.put_statement_head.Goals as goal

pub returns : goal.returns
returns c = rw (← c.letter.ensures, ← c.kind.ensures, ← c.number.ensures) c.put_head_bytes.ensures
