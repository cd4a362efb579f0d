use native.Mathlib.Numerals.{add-one}
use native.Mathlib.Omega.{arith}
use lib.Bits.{and_mask}
use lib.ListN.{length-set}
use Rattle.definition.specs.Writer.{two_bytes}
use Rattle.records.proofs.Tail.{stored, counted}
use Rattle.records.proofs.write.put_num.Goals as goal

pub bounds-out-at-then-at-out : goal.bounds-out-at-then-at-out
bounds-out-at-then-at-out c = simp length-set (omega arith)

pub returns-then-at-out : goal.returns-then-at-out
returns-then-at-out c =
    let args = c.args in
    rw (add-one, and_mask args.v 8) (stored args.out.now (two_bytes args.v) args.at c.past-end.ensures (omega arith))

pub returns : goal.returns
returns c = counted _ _ _ c.past-end.ensures (omega arith)
