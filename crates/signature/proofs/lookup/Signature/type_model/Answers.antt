use mathlib.Core.Path.{◌∙◌, sym}
use Rattle.records.proofs.Lists.{last_none}
use Rattle.signature.proofs.ByKind.{model_last}
use Rattle.signature.proofs.lookup.Signature.type_model.Goals as goal

pub returns-then-n-eq0-clause-result_value : goal.returns-then-n-eq0-clause-result_value
returns-then-n-eq0-clause-result_value c = sym (last_none _ (sym c.type_parents-n.ensures.value ∙ c.if-n-eq0.true))

pub returns-clause-result_value : goal.returns-clause-result_value
returns-clause-result_value c = model_last _ c.type_parents-n.ensures.value c.if-n-eq0.false c.type_parent.ensures.result_value
