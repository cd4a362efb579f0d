use Rattle.definition.specs.Names.{numbers_of}
use Rattle.kinds.proofs.yielding.all_flagged.Goals as goal

pub returns : goal.returns
unfolding numbers_of
returns c = rw c.elements.ensures.value at c.all_flagged_among.ensures
