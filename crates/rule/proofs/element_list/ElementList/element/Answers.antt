use native.Mathlib.Omega.{arith}
use borrow.Author.Rules.{rules}
use Rattle.rule.proofs.ElementLaws.{below_count, element_lies, element_read}
use Rattle.rule.proofs.element_list.ElementList.element.Goals as goal

pub element_field-at-requires : goal.element_field-at-requires
element_field-at-requires c =
    let b = below_count _ _ _ (rw (← c.self.view_is) at c.requires) in
    let f = c.self.invariant.1.few in (c.self.invariant.0, omega arith)

pub split_at-requires : goal.split_at-requires
split_at-requires c = let l = element_lies c.self.invariant.1 _ (below_count _ _ _ (rw (← c.self.view_is) at c.requires)) in search rules

pub overflow_sub-two : goal.overflow_sub-two
overflow_sub-two c = let l = element_lies c.self.invariant.1 _ (below_count _ _ _ (rw (← c.self.view_is) at c.requires)) in search rules

pub split_at-requires-2 : goal.split_at-requires-2
split_at-requires-2 c = let l = element_lies c.self.invariant.1 _ (below_count _ _ _ (rw (← c.self.view_is) at c.requires)) in search rules

pub returns : goal.returns
returns c = rw (← c.self.view_is, c.num.ensures, c.num-2.ensures, c.element_field-at.ensures.0)
    (element_read c.self.invariant.1 _ (rw (← c.self.view_is) at c.requires) (search rules))
