use mathlib.Core.Path.{sym, ◌∙◌, ap}
use Rattle.rule.specs.Views.{StructureBy}
use Rattle.rows.proofs.LinkLaws.{both_alike}
use Rattle.rows.proofs.morphism.Morphism.link.Goals as goal

pub new-requires-clause-alike : goal.new-requires-clause-alike
new-requires-clause-alike c =
    let sig = λ (x : StructureBy). x.sig in
    both_alike c.new.invariant c.new-2.invariant
    (ap sig (c.new.view_is ∙ c.source.ensures.value) ∙ sym (ap sig (c.new-2.view_is ∙ c.target.ensures.value)))
