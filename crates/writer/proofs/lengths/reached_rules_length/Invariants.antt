use mathlib.Core.List.{[]}
use Prim.Native.Nat.{◌≤◌, ◌<◌}
use Rattle.definition.specs.Walk.{State}
use Rattle.records.specs.Buffer.{count_limit}
use Rattle.walk.specs.Reached.{EndsIn}
use Rattle.writer.proofs.Ruling.{Ruling}
use Rattle.writer.proofs.Measuring.{Measured}
use Rattle.writer.proofs.lengths.reached_rules_length.Given as goal

abbrev pub invariant-loop-t : goal.invariant-loop-t
invariant-loop-t l = (l.at ≤ count_limit) × ((l.count < l.t)
    × ((state : State) → EndsIn l.r state → Ruling [] [] l.r state l.from l.at l.count l.t × Measured l.r state l.lengths l.t))
