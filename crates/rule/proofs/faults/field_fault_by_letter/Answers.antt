use Rattle.rule.proofs.Drawn.{in_structure}
use Rattle.rule.proofs.faults.field_fault_by_letter.Goals as goal

pub field_fault-requires : goal.field_fault-requires
field_fault-requires c = rw c.section_by.ensures (in_structure _ c.args.letter c.requires)

pub returns : goal.returns
returns c = rw (← c.section_by.ensures) c.field_fault.ensures
