use Rattle.std.proofs.Common.{◌<◌, ◌≡◌, arith, length}
use Rattle.flags.specs.Flags.{places}
use Rattle.kinds.proofs.Fresh.{free_old, free_marked, free_new, free_are}
use Rattle.kinds.proofs.elements.free_in_row.Goals.{then-first-vars+then-not-marks-i, else-first-vars}
use Rattle.kinds.proofs.elements.free_in_row.Goals.{else-first-vars-via-then-first-vars+else-not-marks-i}
use Rattle.kinds.proofs.elements.free_in_row.Goals.{else-first-vars-via-else-first-vars}
use Rattle.kinds.proofs.elements.free_in_row.Goals as goal

pub loop-i-preserved : goal.loop-i-preserved
loop-i-preserved c =
    let few : c.loop-i.i < places = omega arith in
    elim c.if-first-vars.branch [
      | then-first-vars+then-not-marks-i w ↦ rw (w.mask-is, w.with_flag-mask.ensures)
          (free_new c.loop-i.invariant few w.if-first-vars.true w.if-not-marks-i.true)
      | else-first-vars w ↦ rw w.mask-is (elim w.else-first-vars.branch [
        | else-first-vars-via-then-first-vars+else-not-marks-i u ↦
            free_marked c.loop-i.invariant few u.if-first-vars.true u.if-not-marks-i.false
        | else-first-vars-via-else-first-vars u ↦ free_old c.loop-i.invariant few u.if-first-vars.false
      ])
    ]

pub returns : goal.returns
returns c =
    let e : c.loop-i.i ≡ length c.args.vars.now = omega arith in
    λ p q els n k f. free_are (rw e at c.loop-i.invariant) p q els n k f
