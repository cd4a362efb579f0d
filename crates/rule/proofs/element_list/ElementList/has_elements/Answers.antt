-- Whether all are named is whether those from the i-th on are: one that isn't makes it false, one that is leaves it to those behind it.
use mathlib.Core.Path.{refl, sym, ◌∙◌}
use Rattle.records.proofs.Along.{all_start, all_no, all_on, all_end}
use Rattle.rule.proofs.element_list.ElementList.has_elements.Goals as goal

pub loop-i-init : goal.loop-i-init
loop-i-init c = all_start _ _

pub returns-then-not-has_element : goal.returns-then-not-has_element
returns-then-not-has_element c =
    sym (c.loop-i.invariant ∙ all_no _ _ refl (rw c.count-i-end.ensures at c.loop-i-test.true) (sym c.at.ensures)
    (sym c.has_element.ensures ∙ c.if-not-has_element.true))

pub loop-i-preserved : goal.loop-i-preserved
loop-i-preserved c =
    c.loop-i.invariant ∙ all_on _ _ refl (rw c.count-i-end.ensures at c.loop-i-test.true) (sym c.at.ensures)
    (sym c.has_element.ensures ∙ c.if-not-has_element.false)

pub returns : goal.returns
returns c = sym (c.loop-i.invariant ∙ all_end _ _ refl (rw c.count-i-end.ensures at c.loop-i-test.false))
