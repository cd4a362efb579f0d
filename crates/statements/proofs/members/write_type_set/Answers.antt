use Rattle.group.specs.Written.{statement_head}
use Rattle.statements.specs.Parts.{type_set_of}
use Rattle.definition.specs.Writer.{number_bytes, statement_field, field_bytes}
use Rattle.records.proofs.Tail.{then}
use Rattle.statements.proofs.members.write_type_set.Goals as goal

pub returns : goal.returns
unfolding statement_head type_set_of field_bytes statement_field number_bytes
returns c = then c.put_head_bytes-at.ensures c.put_num.ensures
