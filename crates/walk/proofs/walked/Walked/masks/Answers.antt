use Rattle.walk.proofs.walked.Walked.masks.Goals as goal

pub returns-clause-said : goal.returns-clause-said
returns-clause-said c = rw c.reached.ensures.value at c.masks.ensures.said

pub returns-clause-merged : goal.returns-clause-merged
returns-clause-merged c = rw c.reached.ensures.value at c.masks.ensures.merged
