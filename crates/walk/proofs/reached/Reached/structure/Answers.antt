use Rattle.rule.specs.Structures.{structure_in}
use Rattle.walk.proofs.reached.Reached.structure.Goals as goal

pub new-requires : goal.new-requires
new-requires c = let l = c.self.invariant in record { sig = l.sig; at = l.sounds _ (rw (← c.self.view_is) at c.requires) }

pub returns : goal.returns
unfolding structure_in
returns c = rw (← c.self.view_is) c.new.ensures
