use lib.Seq.{take_all}
use Rattle.naming.specs.Variables.{kept_in}
use Rattle.naming.proofs.Entries.{fresh_counted}
use Rattle.naming.proofs.variables.fresh_in.Goals as goal

pub returns : goal.returns
unfolding kept_in
returns c = rw (c.loop-var.invariant, take_all _ _ c.loop-var-test.false) (fresh_counted _ _)
