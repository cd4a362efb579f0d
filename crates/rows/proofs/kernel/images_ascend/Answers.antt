use mathlib.Core.Path.{sym}
use borrow.Author.Rules.{rules}
use Rattle.rows.proofs.Ascending.{ascend_nothing, ascend_start, ascend_end, ascend_not, ascend_next}
use Rattle.rows.proofs.kernel.images_ascend.Goals as goal

pub returns-then-count-eq0 : goal.returns-then-count-eq0
returns-then-count-eq0 c = sym (ascend_nothing _ (search rules))

pub loop-p-init : goal.loop-p-init
loop-p-init c = ascend_start (search rules) c.image-last.ensures

pub returns-then-le : goal.returns-then-le
returns-then-le c = sym (ascend_not c.loop-p.invariant (search rules) c.image-e.ensures (search rules))

pub loop-p-preserved : goal.loop-p-preserved
loop-p-preserved c = ascend_next c.loop-p.invariant (search rules) c.image-e.ensures (search rules)

pub returns : goal.returns
returns c = sym (ascend_end c.loop-p.invariant (search rules))
