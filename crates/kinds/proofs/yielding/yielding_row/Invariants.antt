use Rattle.rule.specs.Row.{rows_left}
use Rattle.kinds.proofs.Seeking.{Sought}
use Rattle.kinds.proofs.yielding.yielding_row.Given as goal

abbrev pub invariant-loop-place : goal.invariant-loop-place
invariant-loop-place l = Sought l.e.0 (rows_left l.rows) (rows_left l.place-iterator.iter) l.place-iterator.count
