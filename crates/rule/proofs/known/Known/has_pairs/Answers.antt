-- Whether all pairs are named is whether those from the p-th on are (`all_pairs`). A key or an image that is no element makes it false
-- (`pairs_no`); a pair of elements leaves it to those behind it (`pairs_on`); none left is true (`pairs_end`).
use mathlib.Core.Path.{sym, ◌∙◌}
use Rattle.rule.specs.Faults.{pair_named}
use Rattle.rule.proofs.PairLaws.{pairs_start, pairs_no, pairs_on, pairs_end}
use Rattle.rule.proofs.known.Known.has_pairs.Goals as goal

pub loop-p-init : goal.loop-p-init
loop-p-init c = pairs_start c.args.pairs.now _

pub returns-then-not-has_element : goal.returns-then-not-has_element
unfolding pair_named
returns-then-not-has_element c =
    sym (c.loop-p.invariant
    ∙ pairs_no _ _ _ c.loop-p-test.true (rw (rw c.num.ensures at (sym c.has_element.ensures ∙ c.if-not-has_element.true))))

pub returns-then-not-has_element-2 : goal.returns-then-not-has_element-2
unfolding pair_named
returns-then-not-has_element-2 c =
    sym (c.loop-p.invariant ∙ pairs_no _ _ _ c.loop-p-test.true
    (rw (
      rw c.num.ensures at
          (sym c.has_element.ensures ∙ c.if-not-has_element.false),
      rw c.num-in-loop-p.ensures at (sym c.has_element-in-loop-p.ensures ∙ c.if-not-has_element-2.true),
    )))

pub loop-p-preserved : goal.loop-p-preserved
unfolding pair_named
loop-p-preserved c =
    c.loop-p.invariant ∙ pairs_on _ _ _ c.loop-p-test.true
    (rw (
      rw c.num.ensures at
          (sym c.has_element.ensures ∙ c.if-not-has_element.false),
      rw c.num-in-loop-p.ensures at (sym c.has_element-in-loop-p.ensures ∙ c.if-not-has_element-2.false),
    ))

pub returns : goal.returns
returns c = sym (c.loop-p.invariant ∙ pairs_end _ _ _ c.loop-p-test.false)
