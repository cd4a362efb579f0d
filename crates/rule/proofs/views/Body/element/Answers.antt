use Rattle.rule.proofs.Soundness.{formed_parents}
use Rattle.rule.proofs.views.Body.element.Goals as goal

pub returns-clause-few : goal.returns-clause-few
returns-clause-few c = formed_parents c.elements.ensures.formed _ c.requires (rw c.elements.ensures.value at c.element.ensures)
