use mathlib.Core.Path.{◌≡◌}
use Rattle.records.proofs.Copying.{none, one}
use native.Mathlib.Omega.{arith}
use Rattle.records.proofs.write.copy_bytes.Goals as goal

pub loop-i-init : goal.loop-i-init
loop-i-init c = none _ _ _ _

pub loop-i-preserved : goal.loop-i-preserved
loop-i-preserved c =
    let p = c.requires in let h = c.loop-i-test.true in
    one c.loop-i.invariant (omega arith) (omega arith)

pub returns : goal.returns
returns c =
    let e : c.loop-i.i ≡ c.args.len = omega (arith, c.loop-i.auto.i-end, c.loop-i-test.false) in
    rw (← e) c.loop-i.invariant.same
