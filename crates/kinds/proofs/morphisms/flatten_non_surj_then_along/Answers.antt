use Rattle.definition.specs.Names.{numbers_of}
use Rattle.kinds.specs.Edges.{edge_by, step_with}
use Rattle.kinds.proofs.Domains.{nothing_new, more_new, one_new, new_below}
use Rattle.kinds.proofs.morphisms.flatten_non_surj_then_along.Goals as goal

pub returns-in-Nothing : goal.returns-in-Nothing
unfolding numbers_of
returns-in-Nothing c =
    let told = rw (c.elements.ensures.value, c.target.ensures.value) at c.in-Nothing.ensures in
    λ sig table sourcevars types. nothing_new _ table (told _ c.requires.images)

pub yielding_step-requires-clause-inside : goal.yielding_step-requires-clause-inside
unfolding numbers_of
yielding_step-requires-clause-inside c =
    let told = rw (c.elements.ensures.value, c.target.ensures.value) at c.in-One.ensures in
    new_below c.args.link.now.target (told _ c.requires.images)

pub returns-in-One : goal.returns-in-One
unfolding numbers_of
returns-in-One c =
    let told = rw (c.elements.ensures.value, c.target.ensures.value) at c.in-One.ensures in
    λ sig table sourcevars types. c.yielding_step.ensures sig table sourcevars types
    (one_new (step_with sig (edge_by c.args.link.now sourcevars c.args.targetvars.now types)) (told _ c.requires.images))

pub returns-in-More : goal.returns-in-More
unfolding numbers_of
returns-in-More c =
    let told = rw (c.elements.ensures.value, c.target.ensures.value) at c.in-More.ensures in
    λ sig table sourcevars types. more_new _ table (told _ c.requires.images)
