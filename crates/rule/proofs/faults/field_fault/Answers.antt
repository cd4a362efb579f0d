-- What is called is the check of the section's fields.
use Rattle.rule.proofs.faults.field_fault.Goals as goal

pub returns-in-Head : goal.returns-in-Head
returns-in-Head c = λ letter before. rw c.in-Head.is (c.head_fault.ensures letter _ _)

pub returns-in-Row : goal.returns-in-Row
returns-in-Row c = λ letter before. rw c.in-Row.is (rw c.count.ensures at (c.row_fault.ensures letter before))

pub returns-in-Name : goal.returns-in-Name
returns-in-Name c = λ letter before. rw c.in-Name.is (rw c.count-in-Name.ensures at (c.name_fault.ensures letter before))

pub returns-in-Map : goal.returns-in-Map
returns-in-Map c = λ letter before. rw c.in-Map.is (c.map_fault.ensures letter before)

pub returns-in-Kind : goal.returns-in-Kind
returns-in-Kind c = λ letter before. rw c.in-Kind.is (c.kind_fault.ensures letter before)

pub returns-in-Auxiliary : goal.returns-in-Auxiliary
returns-in-Auxiliary c = λ letter before. rw c.in-Auxiliary.is (c.auxiliary_fault.ensures letter before)
