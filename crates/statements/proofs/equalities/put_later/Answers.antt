-- Of the Equalities of v with those behind it, those from some variable on are left (`Writing`, `later_bytes`). The next is put
-- (`later_on`); behind the last there is none (`later_end`).
use Rattle.records.proofs.Tail.{wrote, finish}
use Rattle.statements.proofs.Fibers.{later_on, later_end, later_bytes}
use Rattle.statements.proofs.equalities.put_later.Goals as goal

pub loop-w-preserved : goal.loop-w-preserved
loop-w-preserved c =
    let q = rw c.from.ensures at c.from-symbol.ensures in
    wrote c.loop-w.invariant (later_on _ _ _ _ _ c.loop-w-test.true q) c.put_statement_bytes-at.ensures

pub returns : goal.returns
unfolding later_bytes
returns c = finish c.loop-w.invariant (later_end _ _ _ _ _ c.loop-w-test.false)
