-- The table has the kinds of K and of the X passed; the X that are left complete them to what all X make of K (`Completing`).
use Rattle.definition.specs.Base.{each}
use Rattle.plan.proofs.Storing.{lowest_is, pair_placed, complete_end}
use Rattle.plan.proofs.table.complete.Goals as goal

-- What is added is the pair of the first of those that are left.
pub add-requires : goal.add-requires
unfolding each
add-requires c =
    let p = pair_placed (rw c.in-Some.ensures.steps.0 at c.loop-f.invariant.2) c.incoming_source.ensures.sound c.auxiliaries-f-items.ensures.sound in
    let s = c.read_auxiliary-x.ensures.structure_is c.in-Some.f.letter in
    (rw (c.unwrap_or.ensures, lowest_is _ c.incoming_source.ensures.value, s) p.source_in, rw s p.target_in)

pub returns : goal.returns
unfolding each
returns c = complete_end (rw c.in-None.ensures.steps.0 at c.loop-f.invariant.2)
