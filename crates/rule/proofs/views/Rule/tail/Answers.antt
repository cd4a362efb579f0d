use mathlib.Core.Path.{refl}
use Rattle.rule.proofs.RuleLaws.{sound_by}
use Rattle.rule.proofs.ViewLaws.{ready}
use Rattle.rule.proofs.views.Rule.tail.Goals as goal

pub invariant_of-result : goal.invariant_of-result
invariant_of-result c = ready c.self.invariant

pub returns-clause-value : goal.returns-clause-value
returns-clause-value c = rw (← c.self.view_is) refl

pub returns-clause-sound : goal.returns-clause-sound
returns-clause-sound c = rw (← c.self.view_is) (sound_by c.self.invariant)
