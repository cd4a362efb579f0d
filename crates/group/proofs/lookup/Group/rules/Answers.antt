use mathlib.Core.Path.{sym}
use Rattle.group.proofs.Values.{rules_length}
use Rattle.group.proofs.lookup.Group.rules.Goals as goal

pub returns : goal.returns
returns c = rw (← c.self.view_is) (sym (rules_length c.self.invariant.rule))
