-- The part of a record that a section is.
use Prim.Native.Nat.{ℕ, ◌+◌, ◌-◌, ◌≤◌, ◌<◌}
use native.Mathlib.Omega.{arith}
use mathlib.Core.List.{List}
use mathlib.Core.Path.{◌≡◌, sym, ◌∙◌}
use lib.ListN.{length, get_or, take, drop, length-take}
use borrow.Author.Tests.{le-ltb}
use Rattle.definition.specs.Records.{Field}
use Rattle.records.specs.Iter.{fields_in}
use Rattle.records.specs.Places.{two_at, stretch, field_at, Run}
use Rattle.records.proofs.FieldsIn.{FoundAt, run_fields, none_short}
use Rattle.records.proofs.Link.{got_is}
use Rattle.records.proofs.Numbers.{length_stretch, stretch_at, drop_stretch, take_stretch}
use Rattle.records.proofs.Runs.{run_end, run_within}
use Rattle.rule.specs.Elements.{Lies}

module _ {s : List ℕ} where
  -- Fields that are there lie in the record.
  pub run_inside : {at end : ℕ} {fs : List Field} → Run s at end fs → at < end → end ≤ length s
  run_inside (Run.none) h = absurd (omega arith)
  run_inside (Run.more {at} e r) h = let g = got_is s at e in run_within r (omega arith)

  -- Those of none, and those of some.
  pub part_none : (part : List ℕ) {at end : ℕ} {fs : List Field} → Run s at end fs → end ≤ at → length part ≡ 0 → fields_in part ≡ fs
  part_none part r h e = none_short part (omega arith) ∙ sym (run_end r h)

  pub part_some : {at end : ℕ} {fs : List Field} → Run s at end fs → at < end → fields_in (stretch s at (end - at)) ≡ fs
  part_some r h = run_fields r (run_inside r h)

-- The part of those ends where they do.
pub lies_some : (s : List ℕ) (at to : ℕ) → at < to → to ≤ length s → Lies s to (take (to - at) (drop at s))
unfolding stretch
lies_some s at to h k =
    let size : length (take to s) ≡ to = length-take to s ∙ omega arith in
    let long : length (stretch s at (to - at)) ≡ to - at = length_stretch s at (to - at) (omega arith) in
    let place : length (take to s) - length (stretch s at (to - at)) ≡ at = omega arith in
    record {
      end = record { few = omega arith; same = let z : 0 + at ≡ at = omega arith in rw place (sym (rw z at (drop_stretch s 0 to at))) };
      within = λ l. k;
    }

-- A field that is found in front of a position of the record is found in the record.
module _ (s : List ℕ) (to : ℕ) (k : to ≤ length s) where
  front_at : (i : ℕ) → i < to → get_or (take to s) i 0 ≡ get_or s i 0
  unfolding stretch
  front_at i h = let z : 0 + i ≡ i = omega arith in rw z at (stretch_at s 0 to i h)

  front_stretch : (at n : ℕ) → at + n ≤ to → stretch (take to s) at n ≡ stretch s at n
  unfolding stretch
  front_stretch at n h = let z : 0 + at ≡ at = omega arith in rw (drop_stretch s 0 to at, z) (take_stretch s at (to - at) n (omega arith))

  pub front_found : {at next : ℕ} {f : Field} → FoundAt (take to s) at f next → FoundAt s at f next
  unfolding field_at
  front_found {at} {next} {f} w =
      let g = got_is (take to s) at w.is in
      let size : length (take to s) ≡ to = length-take to s ∙ omega arith in
      let n : ℕ = length f.content in
      let two : two_at s (at + 1) ≡ n = rw (front_at (at + 1) (omega arith), front_at (at + 1 + 1) (omega arith)) at g.len_is in
      record {
        is = rw (
          le-ltb (length s - at) 3 (omega arith),
          two,
          le-ltb (length s - (at + 3)) n (omega arith),
          ← (front_at at (omega arith)),
          g.letter_is,
          g.next_is,
        );
        same = rw (← (front_stretch (at + 3) n (omega arith))) w.same;
      }
