use Rattle.definition.specs.Names.{numbers_of}
use Rattle.kinds.proofs.edge.Edge.new_elements.Goals as goal

pub returns-clause-value : goal.returns-clause-value
unfolding numbers_of
returns-clause-value c =
    let told = rw (c.elements.ensures.value, c.target.ensures.value) at c.new_among.ensures in
    rw (← c.self.view_is) (told _ c.self.invariant.landed.images)
