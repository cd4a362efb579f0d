use mathlib.Core.Path.{◌∙◌}
use Rattle.group.proofs.Values.{type_is}
use Rattle.group.proofs.lookup.VariableTable.variable_type.Goals as goal

pub returns : goal.returns
returns c = let field = c.field_of-at.ensures in c.num.ensures ∙ type_is field.stands field.says
