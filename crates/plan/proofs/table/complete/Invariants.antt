use Rattle.definition.specs.Base.{each}
use Rattle.definition.specs.Rule.{auxiliary_of}
use Rattle.records.specs.Iter.{fields_left}
use Rattle.plan.proofs.Storing.{Completing}
use Rattle.plan.proofs.table.complete.Given as goal

abbrev pub invariant-loop-f : goal.invariant-loop-f
invariant-loop-f l =
    (goal.iterator-loop-f).can_next l.f-iterator × (goal.iterator-loop-f).is_finite l.f-iterator
    × Completing l.tail (each auxiliary_of (fields_left l.f-iterator)) l.table
