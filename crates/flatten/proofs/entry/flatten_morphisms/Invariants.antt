use Rattle.walk.specs.Left.{Going}
use Rattle.flatten.proofs.entry.flatten_morphisms.Given as goal

abbrev pub invariant-loop-target : goal.invariant-loop-target
invariant-loop-target l = Going l.plan l.tables l.types l.next l.target 0

abbrev pub invariant-loop-source : goal.invariant-loop-source
invariant-loop-source l = Going l.plan l.tables l.types l.next l.target l.source
