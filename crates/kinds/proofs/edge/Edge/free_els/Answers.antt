use Rattle.definition.specs.Names.{numbers_of}
use Rattle.kinds.proofs.edge.Edge.free_els.Goals as goal

pub returns : goal.returns
unfolding numbers_of
returns c =
    let told = rw (c.elements-els.ensures.value, c.target.ensures.value) at c.free_among.ensures in
    rw (← c.self.view_is) (λ marked. told _ marked c.self.invariant.landed.images)
