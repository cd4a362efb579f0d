use Rattle.group.specs.Written.{statement_head}
use Rattle.records.proofs.Tail.{then}
use Rattle.group.proofs.write.put_head_bytes.Goals as goal

pub returns : goal.returns
unfolding statement_head
returns c = then (then c.put_field_head-head.ensures c.put_byte-behind.ensures) c.put_num.ensures
