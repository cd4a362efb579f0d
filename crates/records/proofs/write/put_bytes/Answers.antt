use Rattle.records.proofs.Copying.{copied, unfitting, passing}
use native.Mathlib.Omega.{arith}
use Rattle.records.proofs.write.put_bytes.Goals as goal

pub returns-then-from-len : goal.returns-then-from-len
returns-then-from-len c = let p = c.requires in passing _ _ _ _ _ p.1 (omega arith)

pub returns-then-end-out : goal.returns-then-end-out
returns-then-end-out c =
    let p = c.requires in
    rw c.copy_bytes.ensures (copied _ _ _ _ _ p.1 c.if-end-out.true (omega (arith, c.if-from-len.false, p.0)))

pub returns : goal.returns
returns c = let p = c.requires in unfitting _ _ _ _ _ p.1 (omega arith) (omega arith)
