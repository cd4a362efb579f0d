use mathlib.Core.List.{append_assoc}
use Rattle.records.proofs.Tail.{then}
use Rattle.naming.proofs.writer.put_rule_name_of.Goals as goal

pub returns : goal.returns
returns c rule n i = rw append_assoc at (then (then (c.put_group_name_of-group.ensures.put rule n i) c.put_byte-at.ensures) c.put_decimal.ensures)
