use mathlib.Core.Path.{refl}
use Rattle.rule.proofs.ViewLaws.{structure_sound, sound_view}
use Rattle.rule.specs.Structures.{structure_in}
use Rattle.rule.proofs.views.Rule.structure.Goals as goal

pub new-requires : goal.new-requires
new-requires c = record { sig = c.self.inside.sig.now; at = structure_sound c.self.invariant _ (rw (← c.self.view_is) at c.requires) }

pub invariant_of-result : goal.invariant_of-result
invariant_of-result c =
    rw c.new.ensures (sound_view (structure_sound c.self.invariant _ (rw (← c.self.view_is) at c.requires)) c.self.invariant.small)

pub returns : goal.returns
unfolding structure_in
returns c = rw (← c.self.view_is, c.new.ensures) refl
