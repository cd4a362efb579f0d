use mathlib.Core.Path.{sym}
use Rattle.signature.proofs.Views.{funcs_are}
use Rattle.signature.proofs.lookup.Signature.funcs.Goals as goal

pub returns : goal.returns
returns c = sym (funcs_are _ _ _ c.self.view_is)
