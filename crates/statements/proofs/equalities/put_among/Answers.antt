use Rattle.records.proofs.Tail.{wrote, finish}
use Rattle.statements.proofs.Counting.{beyond, among_long}
use Rattle.statements.proofs.Fibers.{among_on, among_end, among_bytes}
use Rattle.statements.proofs.equalities.put_among.Goals as goal

pub returns-then-out-from : goal.returns-then-out-from
returns-then-out-from c = beyond _ (rw (among_long _ _ _) c.past.ensures) c.if-out-from.true c.requires.from_le_count_limit

pub loop-i-preserved : goal.loop-i-preserved
loop-i-preserved c = wrote c.loop-i.invariant (among_on _ _ _ _ c.loop-i-test.true) c.put_later-at.ensures

pub returns : goal.returns
unfolding among_bytes
returns c = finish c.loop-i.invariant (among_end _ _ _ _ c.loop-i-test.false)
