use Prim.Native.Nat.{◌≤◌, ◌<◌}
use Rattle.definition.specs.Walk.{State}
use Rattle.records.specs.Buffer.{count_limit}
use Rattle.walk.specs.Reached.{EndsIn}
use Rattle.writer.proofs.Ruling.{Ruling}
use Rattle.writer.proofs.rules.put_reached_rules.Given as goal

abbrev pub invariant-loop-t : goal.invariant-loop-t
invariant-loop-t l = (l.at ≤ count_limit) × ((l.k < l.t) × ((state : State) → EndsIn l.r state → Ruling l.initial.out l.out l.r state l.from l.at l.k l.t))
