use Prim.Native.Nat.{◌<◌}
use native.Mathlib.Omega.{arith}
use Rattle.flags.specs.Flags.{places}
use Rattle.flags.proofs.Words.{flags_set, flags_clear}
use Rattle.flags.proofs.packed_less.Goals.{then-row-i+then-not-others-i, else-row-i, else-row-i-via-then-row-i+else-not-others-i, else-row-i-via-else-row-i}
use Rattle.flags.proofs.packed_less.Goals as goal

pub loop-i-preserved : goal.loop-i-preserved
loop-i-preserved c =
    let few : c.loop-i.i < places = omega arith in let p = c.loop-i.invariant.flags in elim c.if-row-i.branch [
      | then-row-i+then-not-others-i w ↦ rw (w.mask-is, w.with_flag-mask.ensures)
          (record { flags = flags_set p few (rw (w.if-row-i.true, w.if-not-others-i.true)) })
      | else-row-i w ↦ rw w.mask-is (record {
        flags = flags_clear p few (elim w.else-row-i.branch [
          | else-row-i-via-then-row-i+else-not-others-i v ↦ rw (v.if-row-i.true, v.if-not-others-i.false)
          | else-row-i-via-else-row-i v ↦ rw v.if-row-i.false
        ]);
      })
    ]
