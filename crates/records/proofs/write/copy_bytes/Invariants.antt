use Rattle.records.proofs.Copying.{Copying}
use Rattle.records.proofs.write.copy_bytes.Given as goal

abbrev pub invariant-loop-i : goal.invariant-loop-i
invariant-loop-i l = Copying l.initial.out l.out l.s l.at l.start l.i
