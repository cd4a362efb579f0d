-- The fields of a part of a record, first field by first field.
use Prim.Native.Nat.{ℕ, zero, suc, ◌+◌, ◌*◌, ◌-◌, ◌≤◌, ◌<◌}
use native.Mathlib.Omega.{arith}
use mathlib.Core.List.{List, [], ◌∷◌}
use mathlib.Core.Path.{◌≡◌, refl, sym, ◌∙◌, ap}
use lib.ListN.{length, get_or, take, drop, length-take, length-drop}
use native.Mathlib.Nat.{add-zero, add_comm, add_assoc}
use lib.Seq.{drop-drop, take_all}
use lib.Dec.{leb}
use mathlib.Core.Bool.{Bool, true, false}
use Rattle.definition.specs.Base.{when}
use Rattle.definition.specs.Records.{Field, Fields, Part, ◌▸◌, end, bad, cut, fields_of}
use Rattle.laws.proofs.Numbers.{cut_enough}
use Rattle.records.specs.Places.{Parted, two_at, stretch, field_at, fields_at, Run, none, more, got, field_of}
use Rattle.records.specs.declared.fields.Field as read
use Rattle.records.specs.Iter.{up_to_bad, fields_in, Stands, EndOf, FrontOf}
use Rattle.records.proofs.Link.{got_is, long, fit, fields_bad, fields_got}
use Rattle.std.proofs.Common.{Option, Some, None}
use Rattle.records.proofs.Runs.{run_le}
use Rattle.records.specs.Held.{field_in}
use Rattle.records.proofs.Index.{got_field}
use Rattle.records.proofs.Numbers.{length_stretch, stretch_at, drop_stretch, take_stretch}

-- No field is whole in fewer than three bytes, nor where fewer are left than its length says.
pub none_short : (s : List ℕ) → length s < 3 → fields_in s ≡ []
unfolding fields_in fields_of cut up_to_bad
none_short [] h = refl
none_short (l ∷ []) h = refl
none_short (l ∷ a ∷ []) h = refl
none_short (l ∷ a ∷ b ∷ s) h = absurd (omega arith)

pub none_long : (s : List ℕ) → 3 ≤ length s → length (drop 3 s) < two_at s 1 → fields_in s ≡ []
unfolding fields_in fields_of up_to_bad
none_long [] h k = absurd (omega arith)
none_long (l ∷ []) h k = absurd (omega arith)
none_long (l ∷ a ∷ []) h k = absurd (omega arith)
none_long (l ∷ a ∷ b ∷ s) h k = ap up_to_bad (long (suc (suc (length s))) l a b s k)

-- Else the first field is whole, and the others stand behind it.
pub one_first : (s : List ℕ) → 3 ≤ length s → two_at s 1 ≤ length (drop 3 s)
    → fields_of s ≡ record { letter = get_or s 0 0; content = take (two_at s 1) (drop 3 s) } ▸ fields_of (drop (two_at s 1) (drop 3 s))
unfolding fields_of
one_first [] h k = absurd (omega arith)
one_first (l ∷ []) h k = absurd (omega arith)
one_first (l ∷ a ∷ []) h k = absurd (omega arith)
one_first (l ∷ a ∷ b ∷ s) h k =
    let n : ℕ = a * 256 + b in
    let few : length (drop n s) ≤ suc (suc (length s)) = omega (arith, length-drop n s) in
    fit (suc (suc (length s))) l a b s k ∙ ap (λ fs. record { letter = l; content = take n s } ▸ fs) (cut_enough _ (drop n s) few)

-- The first of the cut fields is the first that is given.
pub given_first : (s rest : List ℕ) {f : Field} → fields_of s ≡ f ▸ fields_of rest → fields_in s ≡ f ∷ fields_in rest
unfolding fields_in up_to_bad
given_first s rest e = rw e

-- Where none is given any more, the record ended, or a field passes the end.
pub rest_end : (s : List ℕ) → length s ≡ 0 → fields_of s ≡ end
unfolding fields_of cut
rest_end [] e = refl
rest_end (l ∷ s) e = absurd (omega arith)

pub rest_bad : (s : List ℕ) → fields_in s ≡ [] → 0 < length s → fields_of s ≡ bad
unfolding fields_in fields_of cut up_to_bad
rest_bad [] e h = absurd (omega arith)
rest_bad (l ∷ []) e h = refl
rest_bad (l ∷ a ∷ []) e h = refl
rest_bad (l ∷ a ∷ b ∷ s) e h = go _ _ (leb (a * 256 + b) (length s)) e
  where
    go : (f : Field) (fs : Fields) (t : Bool) → up_to_bad (when t (λ _. f ▸ fs) (λ _. bad)) ≡ [] → when t (λ _. f ▸ fs) (λ _. bad) ≡ bad
    go f fs true e = let z : ◌≡◌ {A = ℕ} 0 1 = cc in absurd (omega arith)
    go f fs false e = refl

-- What a step of the iterator finds.
module _ (s : List ℕ) {behind : List ℕ} {n : ℕ} (b : behind ≡ drop 3 s) (e : n ≡ two_at s 1) (h : 3 ≤ length s) where
  pub step_none : length behind < n → fields_in s ≡ []
  step_none k = none_long s h (rw (← b, ← e) k)

  pub step_first : {content next : List ℕ} → n ≤ length behind → content ≡ take n behind → next ≡ drop n behind
      → Stands s (record { letter = get_or s 0 0; content = content }) next
  step_first {content} {next} k c d =
      let l : length content ≡ n = rw (c, length-take) (omega arith) in
      record {
        first = one_first s h (rw (← b, ← e) k) ∙ rw (c, d, b, e);
        behind = d ∙ rw (b, drop-drop, l, add_comm);
        long = omega (arith, l, ap length d, length-drop n behind, ap length b, length-drop 3 s);
      }

-- A part has no more fields than bytes.
up_to_few : (k : ℕ) (s : List ℕ) → length (up_to_bad (cut k s)) ≤ length s
unfolding cut up_to_bad
up_to_few zero [] = omega arith
up_to_few zero (l ∷ s) = omega arith
up_to_few (suc k) [] = omega arith
up_to_few (suc k) (l ∷ []) = omega arith
up_to_few (suc k) (l ∷ a ∷ []) = omega arith
up_to_few (suc k) (l ∷ a ∷ b ∷ s) = go (leb (a * 256 + b) (length s)) (up_to_few k (drop (a * 256 + b) s))
  where
    go : (t : Bool) → length (up_to_bad (cut k (drop (a * 256 + b) s))) ≤ length (drop (a * 256 + b) s)
        → length (up_to_bad (when t (λ _. record { letter = l; content = take (a * 256 + b) s } ▸ cut k (drop (a * 256 + b) s)) (λ _. bad)))
        ≤ length (l ∷ a ∷ b ∷ s)
    go true h = omega (arith, h, length-drop (a * 256 + b) s)
    go false h = omega arith

pub fields_few : (s : List ℕ) → length (fields_in s) ≤ length s
unfolding fields_in fields_of
fields_few s = up_to_few (length s) s

-- A field that is read at a position is the first of a stretch from there.
pub stretch_stands : (s : List ℕ) (at to : ℕ) {letter start len next : ℕ} → field_at s at ≡ got letter start len next → next ≤ to → to ≤ length s
    → Stands (stretch s at (to - at)) (field_of s letter start len) (stretch s next (to - next))
stretch_stands s at to {letter} {start} {len} {next} e h k =
    let g = got_is s at e in
    let n : ℕ = to - at in
    let size : length (stretch s at n) ≡ n = length_stretch s at n (omega arith) in
    let first : get_or (stretch s at n) 0 0 ≡ letter = stretch_at s at n 0 (omega arith) ∙ rw add-zero g.letter_is in
    let same : len ≡ two_at (stretch s at n) 1 =
    sym g.len_is ∙ rw (stretch_at s at n 1 (omega arith), stretch_at s at n 2 (omega arith), add_assoc) in
    let behind : stretch s start (n - 3) ≡ drop 3 (stretch s at n) = sym (rw (← g.start_is) (drop_stretch s at n 3)) in
    let left : length (stretch s start (n - 3)) ≡ n - 3 = length_stretch s start (n - 3) (omega arith) in
    let content : stretch s start len ≡ take len (stretch s start (n - 3)) = sym (take_stretch s start (n - 3) len (omega arith)) in
    let rest : n - 3 - len ≡ to - next = omega arith in
    let last : stretch s next (to - next) ≡ drop len (stretch s start (n - 3)) = sym (drop_stretch s start (n - 3) len ∙ rw (g.next_is, rest)) in
    rw first at (step_first (stretch s at n) behind same (omega arith) (omega arith) content last)

-- The fields of a stretch from where a run starts to where it ends are the run's.
module _ {s : List ℕ} where
  pub run_fields : {at to : ℕ} {fs : List Field} → Run s at to fs → to ≤ length s → fields_in (stretch s at (to - at)) ≡ fs
  unfolding stretch fields_in fields_of cut up_to_bad
  run_fields (none {at}) h = let e : at - at ≡ 0 = omega arith in rw e refl
  run_fields (more {at} {next = next} {end = to} e r) h =
      let stands = stretch_stands s at to e (run_le r) h in
      given_first (stretch s at (to - at)) (stretch s next (to - next)) stands.first ∙ rw (run_fields r h)

-- The first of what is left at a position is the field that is read there.
pub record FoundAt (s : List ℕ) (at : ℕ) (f : Field) (next : ℕ) : Type 0 where
  pub is : field_at s at ≡ got f.letter (at + 3) (length f.content) next
  pub same : field_of s f.letter (at + 3) (length f.content) ≡ f

first_of_cut : Fields → Field
first_of_cut end = record { letter = 0; content = [] }
first_of_cut bad = record { letter = 0; content = [] }
first_of_cut (f ▸ fs) = f

module _ (s : List ℕ) (at : ℕ) where
  cut_at : fields_at s at ≡ fields_of (drop at s)
  unfolding fields_at
  cut_at = cut_enough (length s) (drop at s) (omega (arith, length-drop at s))

  pub first_at : {f : Field} {fs : Fields} → at < length s → fields_at s at ≡ f ▸ fs → FoundAt s at f (at + 3 + length f.content)
  unfolding first_of_cut
  first_at {f} {fs} h e = go (field_at s at) refl
    where
      go : (r : Option read.Field) → field_at s at ≡ r → FoundAt s at f (at + 3 + length f.content)
      go None q = let clash : bad ≡ f ▸ fs = sym (fields_bad s at h q) ∙ e in let z : ◌≡◌ {A = ℕ} 0 1 = cc in absurd (omega arith)
      go (Some r) q =
          let g = got_is s at q in
          let same : field_of s r.letter r.start r.len ≡ f = ap first_of_cut (sym (fields_got s at q) ∙ e) in
          let letter : r.letter ≡ f.letter = ap (λ f. f.letter) same in
          let content : stretch s r.start r.len ≡ f.content = ap (λ f. f.content) same in
          let long : length f.content ≡ r.len = ap length (sym content) ∙ length_stretch s r.start r.len (omega (arith, g.next_is, g.within)) in
          record { is = rw (← letter, long, g.start_is, g.next_is) q; same = rw (← letter, long, g.start_is, content) refl }

-- A turn along a record: what is left stays its end, and its first field is the one that is read at the position.
module _ {s left : List ℕ} (e : EndOf s left) where
  abbrev place : ℕ
  place = length s - length left

  cut_here : fields_at s place ≡ fields_of left
  cut_here = cut_at s place ∙ ap fields_of (sym e.same)

  pub end_turn : {f : Field} {rest : List ℕ} → Stands left f rest → EndOf s rest
  end_turn {f} {rest} h =
      let few = e.few in
      let long = h.long in
      let at : place + (length f.content + 3) ≡ length s - length rest = omega arith in
      record {
        few = omega arith;
        same = h.behind ∙ ap (drop (length f.content + 3)) e.same ∙ drop-drop (length f.content + 3) place s ∙ ap (λ k. drop k s) at;
      }

  pub end_found : {f : Field} {rest : List ℕ} → Stands left f rest → FoundAt s place f (length s - length rest)
  end_found {f} {rest} h =
      let few = e.few in
      let long = h.long in
      let at : place + 3 + length f.content ≡ length s - length rest = omega arith in
      rw at at (first_at s place {fs = fields_of rest} (omega arith) (cut_here ∙ h.first))

  -- It is the one that an index holds by the position.
  pub end_held : {f : Field} {rest : List ℕ} → Stands left f rest → field_in s place ≡ f
  end_held h = let found = end_found h in got_field s place found.is ∙ found.same

  pub end_sits : {f : Field} {rest : List ℕ} → Stands left f rest → place + 3 + two_at s (place + 1) ≤ length s
  end_sits h = let g = got_is s place (end_found h).is in omega arith

  pub end_bad : fields_in left ≡ [] → 0 < length left → field_at s place ≡ None
  end_bad h k = go (field_at s place) refl
    where
      go : (r : Option read.Field) → field_at s place ≡ r → r ≡ None
      go None q = refl
      go (Some r) q =
          let clash = sym (rest_bad left h k) ∙ sym cut_here ∙ fields_got s place q in
          let z : ◌≡◌ {A = ℕ} 0 1 = cc in absurd (omega arith)

-- At the start all is left.
pub end_all : (s : List ℕ) → EndOf s s
end_all s = let at : length s - length s ≡ 0 = omega arith in record { few = omega arith; same = rw at refl }

-- What the pass along the letters found, by the bytes in front.
pub parted_front : {s : List ℕ} {part : Part} {end : ℕ} {whole : Bool} → Parted s part end whole → (part.whole ≡ true → end ≡ length s)
    → FrontOf s (take end s) part
unfolding stretch
parted_front {s} {part} {end} p h =
    let all : end - 0 ≡ end = omega arith in
    record {
      fields = rw all at (run_fields p.run p.within);
      few = rw length-take (omega arith);
      all = λ q. take_all end s (omega (arith, h q));
    }
