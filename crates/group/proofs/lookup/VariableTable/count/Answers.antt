use mathlib.Core.Path.{sym}
use Rattle.group.proofs.Values.{variables_length}
use Rattle.group.specs.Lookups.{table}
use Rattle.group.proofs.lookup.VariableTable.count.Goals as goal

pub returns : goal.returns
unfolding table
returns c = sym (variables_length c.args.self.now.listed)
