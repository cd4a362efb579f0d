use mathlib.Core.Path.{sym, ◌∙◌}
use Rattle.rule.proofs.ElementLaws.{elements_many, listed}
use Rattle.rule.proofs.element_list.ElementList.count.Goals as goal

pub returns-clause-count_value : goal.returns-clause-count_value
returns-clause-count_value c = rw (← c.self.view_is) (c.element_count.ensures ∙ sym (elements_many _ _ _))

pub returns-clause-sound : goal.returns-clause-sound
returns-clause-sound c = rw (← c.self.view_is) (listed c.self.invariant.1)
