use Rattle.naming.proofs.Entries.{Numbering}
use Rattle.naming.proofs.variables.assign_structure_el_vars.Given as goal

abbrev pub invariant-loop-i : goal.invariant-loop-i
invariant-loop-i l = Numbering l.taken l.next l.vars l.number l.i
