use Rattle.std.proofs.Common.{arith}
use lib.Seq.{length-take-le}
use Rattle.naming.specs.Variables.{kept_in}
use Rattle.naming.proofs.Entries.{images_flagged}
use Rattle.naming.proofs.variables.images_in.Goals as goal

pub returns : goal.returns
unfolding kept_in
returns c =
    images_flagged _ _ _ (length-take-le _ _ (omega arith)) (omega arith) c.loop-i-test.false c.loop-i.invariant.flagged
