use Rattle.records.proofs.Tail.{then}
use Rattle.naming.proofs.Printing.{whole}
use Rattle.naming.proofs.writer.put_name.Goals as goal

pub returns : goal.returns
returns c = then (rw whole at c.put_bytes-at.ensures) c.put_decimal.ensures
