use Rattle.signature.proofs.Arities.{small_arities}
use Rattle.signature.proofs.lookup.Signature.small_arities.Goals as goal

pub returns : goal.returns
returns c = rw (← c.self.view_is) (small_arities c.self.invariant)
