use Rattle.rows.proofs.Places.{numbers_listed}
use Rattle.rows.proofs.kernel.merged_els.Goals as goal

pub returns : goal.returns
returns c = c.merged_among.ensures _ (rw c.elements.ensures.value (numbers_listed _))
