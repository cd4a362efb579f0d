use mathlib.Core.Path.{sym}
use Rattle.group.proofs.Values.{variables_length}
use Rattle.group.proofs.lookup.Group.variables.Goals as goal

pub returns : goal.returns
returns c = rw (← c.self.view_is) (sym (variables_length c.self.invariant.variable))
