use Rattle.rule.specs.Map.{pairs_from}
use Rattle.naming.proofs.Carrying.{Carrying}
use Rattle.naming.proofs.assign.carried.Given as goal

abbrev pub invariant-loop-p : goal.invariant-loop-p
invariant-loop-p l = Carrying l.row l.source l.target (pairs_from l.map) l.taken l.p
