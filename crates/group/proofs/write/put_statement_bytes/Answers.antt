use Rattle.records.proofs.Tail.{lent}
use Rattle.group.proofs.write.put_statement_bytes.Goals as goal

pub returns : goal.returns
returns c = lent c.min-rest.ensures c.write_statement-len.ensures c.past.ensures c.requires.0
