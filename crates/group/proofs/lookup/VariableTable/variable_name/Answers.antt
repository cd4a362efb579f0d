use mathlib.Core.Path.{refl}
use Rattle.group.proofs.Values.{name_is}
use Rattle.group.proofs.lookup.VariableTable.variable_name.Goals as goal

pub returns : goal.returns
returns c = let field = c.field_of-at.ensures in name_is field.stands field.says refl (rw c.two-len.ensures.value refl)
