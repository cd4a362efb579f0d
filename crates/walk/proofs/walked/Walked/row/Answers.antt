use Rattle.walk.proofs.walked.Walked.row.Goals as goal

pub returns-clause-value : goal.returns-clause-value
returns-clause-value c = rw c.reached.ensures.value at c.row.ensures.value

pub returns-clause-given_out : goal.returns-clause-given_out
returns-clause-given_out c = rw c.reached.ensures.value at c.row.ensures.given_out
