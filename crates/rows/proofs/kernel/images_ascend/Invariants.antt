use Rattle.rule.specs.Map.{pairs_from}
use Rattle.rows.proofs.Ascending.{Climbs}
use Rattle.rows.proofs.kernel.images_ascend.Given as goal

abbrev pub invariant-loop-p : goal.invariant-loop-p
invariant-loop-p l = Climbs (pairs_from l.m) l.last.0 l.p
