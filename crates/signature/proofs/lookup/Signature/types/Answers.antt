use mathlib.Core.Path.{sym}
use Rattle.signature.proofs.Views.{types_are}
use Rattle.signature.proofs.lookup.Signature.types.Goals as goal

pub returns : goal.returns
returns c = sym (types_are _ _ _ c.self.view_is)
