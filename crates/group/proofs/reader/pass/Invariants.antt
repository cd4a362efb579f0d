use Prim.Native.Nat.{◌-◌, ◌≤◌}
use mathlib.Core.Path.{◌≡◌}
use lib.ListN.{length}
use Rattle.records.specs.Places.{stretch}
use Rattle.records.specs.Iter.{rest_of}
use Rattle.group.proofs.Passing.{Passing}
use Rattle.group.proofs.reader.pass.Given as goal

abbrev pub invariant-loop-f : goal.invariant-loop-f
invariant-loop-f l =
    (goal.iterator-loop-f).can_next l.f-iterator × (goal.iterator-loop-f).is_finite l.f-iterator
    × (l.end ≤ length l.s) × (rest_of l.f-iterator ≡ stretch l.s l.end (length l.s - l.end)) × Passing l.s l.end l.behind
