use Rattle.std.proofs.Common.{◌∙◌, sym}
use Rattle.records.proofs.Lists.{last_none}
use Rattle.signature.proofs.ByKind.{model_last}
use Rattle.signature.proofs.lookup.SymbolContent.model.Goals as goal

pub returns-then-n-eq0-clause-value : goal.returns-then-n-eq0-clause-value
returns-then-n-eq0-clause-value c = sym (last_none _ (sym c.parents-n.ensures ∙ c.if-n-eq0.true))

pub returns-clause-value : goal.returns-clause-value
returns-clause-value c = model_last _ c.parents-n.ensures c.if-n-eq0.false c.parent.ensures.value
