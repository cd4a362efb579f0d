use Rattle.std.proofs.Common.{arith}
use Rattle.naming.proofs.Entries.{number_some, number_none, number_end}
use Rattle.naming.proofs.variables.assign_structure_el_vars.Goals.{in-Some, in-None}
use Rattle.naming.proofs.variables.assign_structure_el_vars.Goals as goal

pub loop-i-preserved : goal.loop-i-preserved
loop-i-preserved c = elim c.match-own.branch [
  | in-Some w ↦ rw (w.vars-is, w.number-is) (number_some c.loop-i.invariant c.requires.0 c.loop-i-test.true w.in-Some.is)
  | in-None w ↦ rw (w.vars-is, w.number-is) (number_none c.loop-i.invariant c.requires.0 c.loop-i-test.true w.in-None.is)
]

pub returns : goal.returns
returns c = number_end c.loop-i.invariant c.requires.0 (omega arith)
