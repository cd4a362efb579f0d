use Rattle.rule.proofs.faults.not_above.Goals as goal

pub returns-in-Variable : goal.returns-in-Variable
returns-in-Variable c = λ letter before. rw c.in-Variable.is (c.name_not_above.ensures letter before)

pub returns-in-Identifier : goal.returns-in-Identifier
returns-in-Identifier c = λ letter before. rw c.in-Identifier.is (c.first_not_above.ensures letter before)
