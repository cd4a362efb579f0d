use lib.ListN.{length-append}
use native.Mathlib.Omega.{arith}
use Rattle.naming.proofs.writer.rule_name_length_of.Goals as goal

pub returns-clause-value : goal.returns-clause-value
returns-clause-value c rule n i = let g = c.group_name_length_of.ensures.value rule n i in rw length-append (omega arith)
