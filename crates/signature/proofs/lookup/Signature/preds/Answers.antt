use mathlib.Core.Path.{sym}
use Rattle.signature.proofs.Views.{preds_are}
use Rattle.signature.proofs.lookup.Signature.preds.Goals as goal

pub returns : goal.returns
returns c = sym (preds_are _ _ _ c.self.view_is)
