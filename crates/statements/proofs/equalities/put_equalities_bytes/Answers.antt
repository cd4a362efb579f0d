-- Of the Equalities by image, those of the target's elements from the j-th on are left (`Writing`, `over_bytes`). For a flagged element its
-- fiber's are put (`els_on`); one without a flag is the image of one key at most (`unflagged`), so it has none (`els_pass`). All of them
-- together are the Equalities of the kernel pairs (`equalities_are`).
use Prim.Native.Nat.{◌≤◌, ◌<◌}
use native.Mathlib.Omega.{arith}
use mathlib.Core.Path.{refl, sym, ◌∙◌, ap}
use lib.ListN.{length, get_or}
use Rattle.definition.specs.Kinds.{variable_in}
use Rattle.definition.specs.Names.{numbers_of}
use Rattle.definition.specs.Rule.{Structure}
use Rattle.records.proofs.Tail.{begin, wrote, passed, finish}
use Rattle.rows.proofs.Places.{numbers_many}
use Rattle.rows.proofs.Several.{unflagged}
use Rattle.statements.specs.Structures.{side_of}
use Rattle.statements.proofs.KernelPairs.{keys_typed, equalities_are}
use Rattle.statements.proofs.Fibers.{els_on, els_pass, els_end, over_bytes}
use Rattle.statements.proofs.equalities.put_equalities_bytes.Goals.{else-flag, then-flag}
use Rattle.statements.proofs.equalities.put_equalities_bytes.Goals as goal

pub put_fiber-at-requires-clause-keys_typed : goal.put_fiber-at-requires-clause-keys_typed
put_fiber-at-requires-clause-keys_typed c =
    let q = c.of-source.ensures ∙ ap (λ (x : Structure). side_of x c.args.row.now) c.source.ensures.value in
    rw c.map.ensures.value (keys_typed q c.source.ensures.linked.keys c.requires.given_out)

pub loop-j-init : goal.loop-j-init
loop-j-init c = begin _ _ c.requires.from_le_count_limit

pub loop-j-preserved : goal.loop-j-preserved
loop-j-preserved c =
    let m = c.args.m.now in
    let q = c.of-source.ensures ∙ ap (λ (x : Structure). side_of x c.args.row.now) c.source.ensures.value in
    let to = c.target-target.ensures.value in
    let k = c.element_count-j-end.ensures.count_value ∙ ap (λ (x : Structure). length x.elements) to in
    let n = numbers_many m.target in let l = c.loop-j-test.true in
    let h : c.loop-j.j < length (numbers_of m.target) = omega arith in
    elim c.if-flag.branch [
      | then-flag w ↦ rw (w.out-is, w.at-is) (wrote c.loop-j.invariant
          (els_on _ _ _ _ _ _ h (w.element_number-e.ensures ∙ ap (λ (x : Structure). get_or (numbers_of x) c.loop-j.j 0) to)
          (ap variable_in q) w.map.ensures.value)
          w.put_fiber-at.ensures)
      | else-flag w ↦ rw (w.out-is, w.at-is) (passed c.loop-j.invariant
          (els_pass _ _ _ _ _ _ h (unflagged c.source.ensures.linked.merged _ h (rw c.merged-merged.ensures.value at (sym w.if-flag.ensures)))))
    ]

pub returns-clause-put : goal.returns-clause-put
unfolding over_bytes
returns-clause-put c =
    let m = c.args.m.now in
    let k = c.element_count-j-end.ensures.count_value ∙ ap (λ (x : Structure). length x.elements) c.target-target.ensures.value in
    let n = numbers_many m.target in let l = c.loop-j-test.false in
    let h : length (numbers_of m.target) ≤ c.loop-j.j = omega arith in
    let r = finish c.loop-j.invariant (els_end _ _ _ _ _ _ h) in
    λ table target t q. rw (equalities_are (keys_typed refl c.source.ensures.linked.keys c.requires.given_out) t target, q) r
