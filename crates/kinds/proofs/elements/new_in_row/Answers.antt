use Rattle.std.proofs.Common.{◌<◌, arith, length}
use lib.Seq.{take_all}
use Rattle.kinds.proofs.Fresh.{find_start, find_miss, find_hit, find_more, new_at, old_at}
use Rattle.kinds.proofs.elements.new_in_row.Goals.{then-first-vars+in-Nothing, else-first-vars}
use Rattle.kinds.proofs.elements.new_in_row.Goals as goal

pub loop-i-init : goal.loop-i-init
loop-i-init c = λ p els n e. find_start p els

pub returns-in_default : goal.returns-in_default
returns-in_default c =
    let below : c.loop-i.i < length c.args.vars.now = omega arith in
    λ p els n e. find_more p els (rw n at below) (new_at p els _ _ n e _ below c.if-first-vars.true) _ c.in_default.not-Nothing
    (c.loop-i.invariant p els n e)

pub loop-i-preserved : goal.loop-i-preserved
loop-i-preserved c =
    let below : c.loop-i.i < length c.args.vars.now = omega arith in
    λ p els n e.
    elim c.if-first-vars.branch [
      | then-first-vars+in-Nothing w ↦ rw w.new-is
          (find_hit p els (rw n at below) (new_at p els _ _ n e _ below w.if-first-vars.true) (rw w.in-Nothing.is at (c.loop-i.invariant p els n e)))
      | else-first-vars w ↦ rw w.new-is
          (find_miss p els (rw n at below) _ (old_at p els _ _ n e _ below w.if-first-vars.false) (c.loop-i.invariant p els n e))
    ]

pub returns : goal.returns
returns c = λ p els n e. rw (take_all c.loop-i.i els (omega arith)) at (c.loop-i.invariant p els n e)
