-- A field that an iterator over a part of a record gives, by where it stands in the record.
use Prim.Native.Nat.{ℕ, ◌+◌, ◌-◌, ◌≤◌, ◌<◌}
use native.Mathlib.Omega.{arith}
use native.Mathlib.Decide.{dec_lt}
use native.Mathlib.Nat.{add-zero, add_assoc}
use mathlib.Core.List.{List, [], ◌∷◌}
use mathlib.Core.Path.{◌≡◌, refl, sym, ◌∙◌, ap}
use lib.ListN.{length, get_or, take, drop, length-take}
use lib.Seq.{take_all}
use borrow.Author.Tests.{le-ltb}
use Rattle.std.proofs.Common.{Option, Some, None}
use Rattle.definition.specs.Records.{Field, Fields, ◌▸◌, end, bad, fields_of}
use Rattle.records.specs.declared.fields.Field as read
use Rattle.records.specs.Places.{two_at, stretch, field_at, Run, got}
use Rattle.records.specs.Iter.{fields_in, Stands}
use Rattle.records.proofs.FieldsIn.{none_short, none_long, one_first, given_first, stretch_stands, run_fields}
use Rattle.records.proofs.Link.{got_is}
use Rattle.records.proofs.Numbers.{length_stretch, stretch_at, take_stretch, drop_stretch}

-- What stands behind the start of a stretch.
pub stretch_behind : (s : List ℕ) (at n k len : ℕ) → k + len ≤ n → stretch (stretch s at n) k len ≡ stretch s (at + k) len
unfolding stretch
stretch_behind s at n k len h = ap (take len) (drop_stretch s at n k) ∙ take_stretch s (at + k) (n - k) len (omega arith)

-- The field that stands in front of some bytes.
pub record Front (s : List ℕ) (f : Field) : Type 0 where
  pub letter : get_or s 0 0 ≡ f.letter
  pub len : two_at s 1 ≡ length f.content
  pub content : f.content ≡ stretch s 3 (length f.content)

abbrev front : Field → Fields → Field
front d end = d
front d bad = d
front d (f ▸ fs) = f

pub front_is : (s rest : List ℕ) {f : Field} → fields_of s ≡ f ▸ fields_of rest → Front s f
unfolding stretch
front_is s rest {f} e = go (dec_lt (length s) 3)
  where
    long : 3 ≤ length s → Dec (length (drop 3 s) < two_at s 1) → Front s f
    long h (yes l) = let q = sym (none_long s h l) ∙ given_first s rest e in let z : ◌≡◌ {A = ℕ} 0 1 = cc in absurd (omega arith)
    long h (no l) =
        let q : record { letter = get_or s 0 0; content = take (two_at s 1) (drop 3 s) } ≡ f =
        ap (front f) (sym (one_first s h (omega arith)) ∙ e) in
        let n : length (take (two_at s 1) (drop 3 s)) ≡ two_at s 1 = rw length-take (omega arith) in
        let m : two_at s 1 ≡ length f.content = sym n ∙ ap (λ (g : Field). length g.content) q in
        record { letter = ap (λ (g : Field). g.letter) q; len = m; content = sym (ap (λ (g : Field). g.content) q) ∙ rw m refl }

    go : Dec (length s < 3) → Front s f
    go (yes h) = let q = sym (none_short s h) ∙ given_first s rest e in let z : ◌≡◌ {A = ℕ} 0 1 = cc in absurd (omega arith)
    go (no h) = long (omega arith) (dec_lt (length (drop 3 s)) (two_at s 1))

-- It is the field at a position of the record, and the bytes behind it are left.
pub record Given (s : List ℕ) (at to : ℕ) (f : Field) (rest : List ℕ) : Type 0 where
  pub there : field_at s at ≡ got f.letter (at + 3) (length f.content) (at + (3 + length f.content))
  pub content : f.content ≡ stretch s (at + 3) (length f.content)
  pub within : at + (3 + length f.content) ≤ to
  pub left : rest ≡ stretch s (at + (3 + length f.content)) (to - (at + (3 + length f.content)))

module _ (s : List ℕ) (at to : ℕ) (h : at ≤ to) (k : to ≤ length s) {part : List ℕ} (e : part ≡ stretch s at (to - at)) where
  abbrev n : ℕ
  n = to - at

  part_long : length part ≡ n
  part_long = ap length e ∙ length_stretch s at n (omega arith)

  pub given_here : {f : Field} {rest : List ℕ} → Stands part f rest → Given s at to f rest
  unfolding field_at
  given_here {f} {rest} w =
      let size : length rest + length f.content + 3 ≡ n = w.long ∙ part_long in
      let g : Front (stretch s at n) f = rw e at (front_is part rest w.first) in
      let letter : get_or s at 0 ≡ f.letter = sym (stretch_at s at n 0 (omega arith) ∙ rw add-zero refl) ∙ g.letter in
      let len : two_at s (at + 1) ≡ length f.content =
      sym (rw (stretch_at s at n 1 (omega arith), stretch_at s at n 2 (omega arith), add_assoc) refl) ∙ g.len in
      let behind : drop (length f.content + 3) part ≡ stretch s (at + (length f.content + 3)) (n - (length f.content + 3)) =
      rw e (drop_stretch s at n (length f.content + 3)) in
      let next : to - at - (length f.content + 3) ≡ to - (at + (3 + length f.content)) = omega arith in
      let place : at + (length f.content + 3) ≡ at + (3 + length f.content) = omega arith in
      let sum : at + 3 + length f.content ≡ at + (3 + length f.content) = omega arith in
      record {
        there = rw (
          le-ltb (length s - at) 3 (omega arith),
          len,
          le-ltb (length s - (at + 3)) (length f.content) (omega arith),
          letter,
          sum,
        ) refl;
        content = g.content ∙ stretch_behind s at n 3 (length f.content) (omega arith);
        within = omega arith;
        left = w.behind ∙ behind ∙ rw (place, next) refl;
      }

-- The same by its letter.
pub given_letter : {s : List ℕ} {at to letter : ℕ} {f : Field} {rest : List ℕ} → Given s at to f rest → f.letter ≡ letter
    → field_at s at ≡ got letter (at + 3) (length f.content) (at + (3 + length f.content))
given_letter g e = rw e at g.there

-- A run that has a field gives one.
pub run_given : {s : List ℕ} {at to : ℕ} {f : Field} {fs : List Field} → Run s at to (f ∷ fs) → to ≤ length s → {part : List ℕ}
    → part ≡ stretch s at (to - at) → fields_in part ≡ [] → ⊥
run_given r h e n = let q = sym (run_fields r h) ∙ rw e at n in let z : ◌≡◌ {A = ℕ} 0 1 = cc in omega arith

-- Where none is given, none stands there.
pub none_there : (s : List ℕ) (at : ℕ) → fields_in (stretch s at (length s - at)) ≡ [] → field_at s at ≡ None
none_there s at e = go (field_at s at) refl
  where
    go : (o : Option read.Field) → field_at s at ≡ o → field_at s at ≡ None
    go None q = q
    go (Some f) q =
        let g = got_is s at q in
        let w = stretch_stands s at (length s) q (omega (arith, g.within)) (omega arith) in
        let z = sym e ∙ given_first _ _ w.first in let z : ◌≡◌ {A = ℕ} 0 1 = cc in absurd (omega arith)

-- All of a record is a stretch from its start.
pub whole_stretch : (s : List ℕ) → s ≡ stretch s 0 (length s - 0)
unfolding stretch
whole_stretch s = sym (take_all (length s - 0) s (omega arith))

-- So are its first bytes.
pub first_stretch : (s : List ℕ) (to : ℕ) → take to s ≡ stretch s 0 (to - 0)
unfolding stretch
first_stretch s to = let e : to - 0 ≡ to = omega arith in rw e refl
