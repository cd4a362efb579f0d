use Rattle.rule.proofs.RuleLaws.{sound_by}
use Rattle.rule.proofs.ViewLaws.{structure_count}
use Rattle.rule.proofs.views.Rule.structures.Goals as goal

pub returns-clause-count_value : goal.returns-clause-count_value
returns-clause-count_value c = rw (← c.self.view_is) (structure_count c.self.invariant)

pub returns-clause-sound : goal.returns-clause-sound
returns-clause-sound c = rw (← c.self.view_is) (sound_by c.self.invariant)
