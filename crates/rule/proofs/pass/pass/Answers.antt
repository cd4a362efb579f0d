-- Behind the fields `passed`, which follow the grammar, with `structures` S among them; each section so far runs from its bound to the next
-- (`Passing`). A repeated letter stays in its section (`pass_again`), another starts its own (`pass_next`). It ends at what is no field
-- (`pass_bad`), a letter out of order (`pass_stop`), a structure over the limit (`pass_over`) or the end (`pass_end`).
use Rattle.std.proofs.Common.{◌∙◌, ◌-◌, length, sym, refl, ap}
use Rattle.records.proofs.FieldsIn.{end_all, end_turn, end_found, end_bad}
use Rattle.rule.proofs.Passing.{pass_start, pass_next, pass_again, pass_bad, pass_stop, pass_over, pass_end, section_in, section_next}
use Rattle.rule.proofs.Passing.{next_in, short, place_in, some_structure}
use Rattle.rule.proofs.Letters.{place_is}
use Rattle.rule.specs.Layout.{letter_at, place_of}
use lib.ListN.{length-set}
use Prim.Native.Nat.{ℕ, zero, suc, ◌<◌}
use mathlib.Core.Bool.{false}
use lib.Dec.{eqb}
use borrow.Author.Tests.{eqb-true}
use Rattle.laws.proofs.Lists.{never}
use Rattle.records.specs.Iter.{rest_of}
use mathlib.Core.Path.{◌≡◌}
use native.Mathlib.Omega.{arith}
use Rattle.rule.proofs.pass.pass.Goals.{then-is_empty, else-is_empty}
use Rattle.rule.proofs.pass.pass.Goals as goal

pub loop-f-init : goal.loop-f-init
unfolding letter_at
loop-f-init c =
    let x = c.args.index.now in
    let none : length c.args.s.now - length c.args.s.now ≡ 0 = omega arith in
    rw (c.new-fields.ensures, none)
    (tt, tt, refl, end_all _, length-set x 0 0 ∙ c.requires.index_len, pass_start _ x c.requires.index_len, sym (place_is 0 (omega arith)))

pub loop-f-preserved-then-behind-gt-PLACE_S : goal.loop-f-preserved-then-behind-gt-PLACE_S
loop-f-preserved-then-behind-gt-PLACE_S c =
    let inv = c.loop-f.invariant in
    let stands = c.in-Some.ensures.steps.1 in (
      tt,
      tt,
      c.rest-left.ensures,
      end_turn inv.3 stands,
      inv.4,
      pass_again inv.5 _ _ _ _ (end_found inv.3 stands).is (inv.6 ∙ ap place_of (sym c.if-f-last.true)) c.if-behind-gt-PLACE_S.true,
      inv.6,
    )

pub ended-requires-clause-section_le_sections : goal.ended-requires-clause-section_le_sections
ended-requires-clause-section_le_sections c =
    let inv = c.loop-f.invariant in rw inv.2 (section_in inv.5, short inv.5 c.requires.s_len_bound)

pub returns-in_default-next_place-clause-passes : goal.returns-in_default-next_place-clause-passes
returns-in_default-next_place-clause-passes c =
    let inv = c.loop-f.invariant in
    rw (c.ended.ensures.whole_value.0, c.ended.ensures.whole_value.1)
    (pass_stop inv.5 _ (rw inv.2 at c.ended.ensures.by_index) _ _ _ _ _ (end_found inv.3 c.in-Some.ensures.steps.1).is refl
    (rw c.in_default-next_place.is at c.next_place.ensures.is))

pub ended-requires-then-n-gt-STRUCTURES-clause-section_le_sections : goal.ended-requires-then-n-gt-STRUCTURES-clause-section_le_sections
ended-requires-then-n-gt-STRUCTURES-clause-section_le_sections c =
    let inv = c.loop-f.invariant in rw inv.2 (section_in inv.5, short inv.5 c.requires.s_len_bound)

pub returns-then-n-gt-STRUCTURES-clause-passes : goal.returns-then-n-gt-STRUCTURES-clause-passes
returns-then-n-gt-STRUCTURES-clause-passes c =
    let inv = c.loop-f.invariant in
    let next = rw c.in-Some-next_place.is at c.next_place.ensures.is in
    let ended = c.ended-then-n-gt-STRUCTURES.ensures in
    rw (ended.whole_value.0, ended.whole_value.1) (rw c.counted-n.ensures
    (pass_over inv.5 _ (rw inv.2 at ended.by_index) _ _ _ _ _ (end_found inv.3 c.in-Some.ensures.steps.1).is next.0 next.1
    (rw (← c.counted-n.ensures) c.if-n-gt-STRUCTURES.true)))

pub section_of-to-requires-clause-structures_le_structure_limit : goal.section_of-to-requires-clause-structures_le_structure_limit
section_of-to-requires-clause-structures_le_structure_limit c =
    let next = rw c.in-Some-next_place.is at c.next_place.ensures.is in
    (c.if-n-gt-STRUCTURES.false, (place_in c.loop-f.invariant.5 _ next.1).1)

pub section_of-to-requires-clause-le_structures : goal.section_of-to-requires-clause-le_structures
section_of-to-requires-clause-le_structures c =
    let next = rw c.in-Some-next_place.is at c.next_place.ensures.is in
    rw c.counted-n.ensures (some_structure c.loop-f.invariant.5 _ next.1)

pub fill-requires-clause-section_le_to : goal.fill-requires-clause-section_le_to
fill-requires-clause-section_le_to c =
    let inv = c.loop-f.invariant in
    let next = rw c.in-Some-next_place.is at c.next_place.ensures.is in
    rw (c.section_of-to.ensures, c.counted-n.ensures, inv.2) (
      section_next inv.5 _ next.1,
      next_in inv.5 _ next.1 (rw (← c.counted-n.ensures) c.if-n-gt-STRUCTURES.false),
      short inv.5 c.requires.s_len_bound,
    )

pub loop-f-preserved : goal.loop-f-preserved
loop-f-preserved c =
    let inv = c.loop-f.invariant in
    let stands = c.in-Some.ensures.steps.1 in
    let next = rw c.in-Some-next_place.is at c.next_place.ensures.is in (
      tt,
      tt,
      c.rest-left.ensures,
      end_turn inv.3 stands,
      c.fill.ensures.index_len_2,
      rw (c.section_of-to.ensures, c.counted-n.ensures)
          (pass_next inv.5 _ _ _ _ _ _ (end_found inv.3 stands).is next.0 next.1
          (rw (← c.counted-n.ensures) c.if-n-gt-STRUCTURES.false)
          (rw (c.section_of-to.ensures, c.counted-n.ensures, inv.2) at c.fill.ensures.by_index)),
      next.0,
    )

pub ended-requires-2-clause-section_le_sections : goal.ended-requires-2-clause-section_le_sections
ended-requires-2-clause-section_le_sections c =
    let inv = c.loop-f.invariant in rw inv.2 (section_in inv.5, short inv.5 c.requires.s_len_bound)

above_zero : (n : ℕ) → eqb n 0 ≡ false → 0 < n
above_zero zero e = never refl e
above_zero (suc n) e = omega arith

pub returns-clause-passes : goal.returns-clause-passes
returns-clause-passes c =
    let inv = c.loop-f.invariant in
    let same = rw inv.2 at c.ended-2.ensures.by_index in
    let some : eqb (length c.loop-f.left.now) 0 ≡ false → 0 < length (rest_of c.loop-f.fields) = λ e. rw inv.2 at (above_zero _ e) in
    rw (c.ended-2.ensures.whole_value.0, c.ended-2.ensures.whole_value.1) (elim c.if-is_empty.branch [
      | then-is_empty w ↦ rw w.whole-is
          (pass_end inv.5 _ same (let none = eqb-true _ _ (sym c.is_empty.ensures ∙ w.if-is_empty.true) in rw (← inv.2) (omega arith)))
      | else-is_empty w ↦ rw (w.whole-is, w.if-is_empty.false)
          (pass_bad inv.5 _ same (omega (arith, some (sym c.is_empty.ensures ∙ w.if-is_empty.false), inv.3.few))
          (end_bad inv.3 c.in_default.ensures.steps.0 (some (sym c.is_empty.ensures ∙ w.if-is_empty.false))))
    ])
