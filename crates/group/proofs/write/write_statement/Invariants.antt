use Rattle.records.proofs.Tail.{Writing}
use Rattle.group.proofs.Writing.{vars_from}
use Rattle.group.proofs.write.write_statement.Given as goal

abbrev pub invariant-loop-v : goal.invariant-loop-v
invariant-loop-v l = Writing l.initial.out l.out l.initial.at l.at (vars_from l.vars 0) (vars_from l.vars l.v-index)
