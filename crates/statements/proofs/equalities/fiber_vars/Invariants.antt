use Rattle.definition.specs.Kinds.{variable_in}
use Rattle.rule.specs.Map.{pairs_from}
use Rattle.statements.specs.Structures.{side_from}
use Rattle.statements.proofs.Fibers.{FiberTo}
use Rattle.statements.proofs.equalities.fiber_vars.Given as goal

abbrev pub invariant-loop-p : goal.invariant-loop-p
invariant-loop-p l = FiberTo (variable_in (side_from l.source)) (pairs_from l.m) l.e.0 l.vars l.count l.p
