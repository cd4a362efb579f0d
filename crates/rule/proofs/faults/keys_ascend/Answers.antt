-- Whether the keys ascend is whether those from the one before the p-th on do (`keys_from`). A key that isn't above the one before makes it
-- false (`keys_no`); one above it leaves it to those behind it (`keys_on`); none left is true (`keys_end`).
use mathlib.Core.Path.{sym, ◌∙◌}
use Rattle.rule.proofs.PairLaws.{keys_start, keys_no, keys_on, keys_end}
use Rattle.rule.proofs.faults.keys_ascend.Goals as goal

pub loop-p-init : goal.loop-p-init
loop-p-init c = keys_start c.args.pairs.now

pub returns-then-num : goal.returns-then-num
returns-then-num c =
    sym (c.loop-p.invariant ∙ keys_no _ _ c.loop-p.auto.p c.loop-p-test.true (rw (c.num.ensures, c.num-in-loop-p.ensures) at c.if-num.true))

pub loop-p-preserved : goal.loop-p-preserved
loop-p-preserved c =
    c.loop-p.invariant ∙ keys_on _ _ c.loop-p.auto.p c.loop-p-test.true (rw (c.num.ensures, c.num-in-loop-p.ensures) at c.if-num.false)

pub returns : goal.returns
returns c = sym (c.loop-p.invariant ∙ keys_end _ _ c.loop-p.auto.p c.loop-p-test.false)
