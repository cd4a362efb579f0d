use Rattle.walk.proofs.Sources.{sourced}
use Rattle.walk.proofs.walked.Walked.source.Goals as goal

pub returns : goal.returns
returns c = sourced _ (rw c.reached.ensures.value at c.source.ensures)
