use mathlib.Core.Path.{sym}
use Rattle.rule.proofs.ViewLaws.{formed_view}
use Rattle.rule.proofs.views.Body.elements.Goals as goal

pub invariant_of-result : goal.invariant_of-result
invariant_of-result c = let l = c.self.invariant.at.laid in (l.few, l.elements.elements)

pub returns-clause-value : goal.returns-clause-value
returns-clause-value c = rw (← c.self.view_is) (sym c.self.invariant.at.laid.same)

pub returns-clause-formed : goal.returns-clause-formed
returns-clause-formed c = rw (← c.self.view_is) (formed_view c.self.invariant.at)
