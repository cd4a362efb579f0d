use mathlib.Core.Path.{sym, ◌∙◌}
use Rattle.rule.proofs.Drawn.{known_few, known_elements, known_at}
use Rattle.rule.proofs.ElementLaws.{list_numbers}
use Rattle.rule.proofs.known.Known.elements.Goals as goal

pub invariant_of-result : goal.invariant_of-result
invariant_of-result c = (known_few c.self.invariant c.self.view_is c.requires, known_elements c.self.invariant c.self.view_is c.requires)

pub returns : goal.returns
returns c = sym (list_numbers _ _ _) ∙ known_at c.self.invariant c.self.view_is c.requires
