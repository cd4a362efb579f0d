use Rattle.group.specs.Written.{variable_head}
use Rattle.records.proofs.Tail.{then}
use Rattle.group.proofs.write.put_variable_head.Goals as goal

pub returns : goal.returns
unfolding variable_head
returns c = then c.put_field_head-head.ensures c.put_num.ensures
