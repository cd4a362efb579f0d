-- The table has the kinds of the fields passed; those of the fields that are left make them the kinds of all (`Storing`).
use Rattle.definition.specs.Base.{each}
use Rattle.rule.specs.Tail.{kind_from}
use Rattle.plan.proofs.Storing.{Placed, store_end, next_placed}
use Rattle.plan.proofs.table.stored.Goals as goal

-- The kind that is read is the first of those that are left.
pub add-requires : goal.add-requires
unfolding each
add-requires c =
    let p = next_placed (rw c.in-Some.ensures.steps.0 at c.loop-f.invariant.2) in
    let q : Placed (kind_from c.read_kind.result) = rw (c.read_kind.ensures.says c.in-Some.f.letter) p in (q.source_in, q.target_in)

pub returns : goal.returns
unfolding each
returns c = store_end (rw c.in-None.ensures.steps.0 at c.loop-f.invariant.2)
