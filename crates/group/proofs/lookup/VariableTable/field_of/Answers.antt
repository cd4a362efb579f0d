use Rattle.group.proofs.Values.{variable_entry, variable_there, variable_is}
use native.Mathlib.Omega.{arith}
use Rattle.group.proofs.lookup.VariableTable.field_of.Goals as goal

pub bounds-self-from : goal.bounds-self-from
bounds-self-from c = let h = variable_entry c.args.self.now.listed _ c.requires in omega (arith, c.from.ensures)

pub returns-clause-stands : goal.returns-clause-stands
returns-clause-stands c = variable_there c.args.self.now.listed _ c.requires (rw c.from.ensures at c.from-2.ensures)

pub returns-clause-says : goal.returns-clause-says
returns-clause-says c = variable_is c.args.self.now.listed _ c.requires (rw c.from.ensures at c.from-2.ensures)
