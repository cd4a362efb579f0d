use Rattle.rule.proofs.ElementLaws.{list_numbers}
use Rattle.rule.proofs.element_list.ElementList.find_element.Goals as goal

pub returns : goal.returns
returns c = rw (← c.self.view_is, ← (list_numbers _ _ _)) c.find_element.ensures
