use Rattle.naming.specs.Variables.{bare}
use Rattle.naming.proofs.News.{Typing}
use Rattle.naming.proofs.types.type_listed_variables.Given as goal

abbrev pub invariant-loop-i : goal.invariant-loop-i
invariant-loop-i l = Typing (bare l.elements) l.first l.var-items l.initial.types l.types l.number l.i
