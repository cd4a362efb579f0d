use mathlib.Core.Path.{◌∙◌}
use Rattle.rule.proofs.ElementLaws.{below_count, list_number}
use Rattle.rule.proofs.element_list.ElementList.element_number.Goals as goal

pub element_number-requires-clause-k_lt_structure_limit : goal.element_number-requires-clause-k_lt_structure_limit
element_number-requires-clause-k_lt_structure_limit c = (c.self.invariant.0, below_count _ _ _ (rw (← c.self.view_is) at c.requires))

pub returns : goal.returns
returns c = rw (← c.self.view_is) (c.element_number.ensures ∙ list_number c.self.invariant.1 _ (rw (← c.self.view_is) at c.requires))
