use Rattle.kinds.proofs.Fresh.{Freed}
use Rattle.kinds.proofs.elements.free_in_row.Given as goal

abbrev pub invariant-loop-i : goal.invariant-loop-i
invariant-loop-i l = Freed l.mask l.first l.vars l.marks l.i
