use Rattle.records.proofs.Tail.{then}
use Rattle.records.proofs.write.put_field_head.Goals as goal

pub returns : goal.returns
returns c = then c.put_byte-behind.ensures c.put_num.ensures
