use Rattle.flags.specs.Flags.{PackedLess}
use Rattle.flags.proofs.packed_less.Given as goal

abbrev pub invariant-loop-i : goal.invariant-loop-i
invariant-loop-i l = PackedLess l.mask l.row l.others l.i
