-- Of all the bytes, those of the elements from the i-th on are left to count (`Counting`, `elements_size`). With its flag an element adds
-- one statement, of its parents and itself: a member row, or a TypeSet where it has no parents (`element_on`); without it none
-- (`element_pass`). From the first on these are all, as sorting keeps the length (`elements_all`).
use mathlib.Core.Path.{sym}
use Prim.Native.Nat.{◌<◌}
use lib.ListN.{length}
use borrow.Author.Rules.{rules}
use Rattle.statements.proofs.Counting.{count_on, count_pass, count_end, elements_all, elements_unsaid, elements_end}
use Rattle.statements.proofs.Counting.{element_on, element_pass}
use Rattle.statements.proofs.Elements.{member_many}
use Rattle.statements.proofs.lengths.elements_length.Goals.{then-flag, else-flag}
use Rattle.statements.proofs.lengths.elements_length.Goals as goal

pub returns-then-none_set-2-clause-by_index : goal.returns-then-none_set-2-clause-by_index
returns-then-none_set-2-clause-by_index c =
    λ letter side q. elements_unsaid letter side _ _ (sym c.if-none_set.ensures) (sym c.if-none_set-2.ensures) c.requires

pub loop-i-preserved : goal.loop-i-preserved
loop-i-preserved c =
    let inv = c.loop-i.invariant in let s = c.element_count-i-end.ensures.formed.ascend in
    let h : c.loop-i.i < length c.args.st.now.elements = search rules in
    let e = c.element.ensures.value in let n = c.count-parents.ensures in
    elim c.if-flag.branch [
      | then-flag w ↦ rw w.at-is (
        w.counted-at.ensures.upper_bound,
        λ letter variable. count_on (inv.1 letter variable) _
            (element_on _ s letter variable _ _ _ h e n (rw c.flags_of.ensures at (sym w.if-flag.ensures)))
            (w.counted-at.ensures.by_index letter _ (member_many variable _ n)),
      )
      | else-flag w ↦ rw w.at-is (
        inv.0,
        λ letter variable. count_pass (inv.1 letter variable)
            (element_pass _ s letter variable _ _ _ h e n (rw c.flags_of.ensures at (sym w.if-flag.ensures))),
      )
    ]

pub returns-clause-by_index : goal.returns-clause-by_index
returns-clause-by_index c =
    let inv = c.loop-i.invariant in let n = c.element_count-i-end.ensures in
    λ letter side q. rw (← (elements_all letter side _ _), q)
    (count_end (inv.1 letter _) (elements_end _ n.formed.ascend letter _ _ _ _ (search rules)) inv.0)
