-- The field read at a position is the first of the definition's fields from there on.
use Prim.Native.Nat.{ℕ, zero, suc, ◌+◌, ◌-◌, ◌*◌, ◌<◌, ◌≤◌}
use native.Mathlib.Omega.{arith}
use native.Mathlib.Numerals.{add-one}
use mathlib.Core.Bool.{Bool, true, false}
use mathlib.Core.List.{List, [], ◌∷◌}
use mathlib.Core.Logic.{◌⊎◌, inl, inr, ⊎_elim}
use mathlib.Core.Path.{◌≡◌, refl, ◌∙◌, ap}
use lib.Dec.{ltb}
use lib.ListN.{length, get_or, take, drop, length-drop}
use lib.Seq.{drop-cons, drop-drop}
use borrow.Author.Tests.{ltb-false, ltb-true, le-leb, lt-leb}
use Rattle.definition.specs.Base.{pick}
use Rattle.definition.specs.Records.{end, bad, ◌▸◌, cut, fields_of}
use Rattle.laws.proofs.Numbers.{cut_same}
use Rattle.records.specs.Places.{two_at, stretch, field_at, fields_at, field_of, got}
use Rattle.records.specs.declared.fields.Field as read
use Rattle.std.proofs.Common.{Option, Some, None}

-- A field that was read, and where it lies.
pub record GotAt (s : List ℕ) (at letter start len next : ℕ) : Type 0 where
  pub letter_is : get_or s at 0 ≡ letter
  pub start_is : at + 3 ≡ start
  pub len_is : two_at s (at + 1) ≡ len
  pub next_is : start + len ≡ next
  pub within : next ≤ length s

-- What a reading tells: of none, that fewer than three bytes are left, or fewer than its length says.
abbrev Seen : List ℕ → ℕ → Option read.Field → Type 0
Seen s at None = (length s < at + 3) ⊎ ((at + 3 ≤ length s) × (length s < at + 3 + two_at s (at + 1)))
Seen s at (Some f) = GotAt s at f.letter f.start f.len f.next

module _ (s : List ℕ) (at : ℕ) where
  seen : Seen s at (field_at s at)
  unfolding field_at
  seen = go (ltb (length s - at) 3) (ltb (length s - (at + 3)) (two_at s (at + 1))) refl refl
    where
      go : (b d : Bool) → ltb (length s - at) 3 ≡ b → ltb (length s - (at + 3)) (two_at s (at + 1)) ≡ d
          → Seen s at (pick b None (pick d None (got (get_or s at 0) (at + 3) (two_at s (at + 1)) (at + 3 + two_at s (at + 1)))))
      go true d q r = inl (omega (arith, ltb-true))
      go false true q r = inr (omega (arith, ltb-false), omega (arith, ltb-true, ltb-false))
      go false false q r = record { letter_is = refl; start_is = refl; len_is = refl; next_is = refl; within = omega (arith, ltb-false) }

  pub got_is : {letter start len next : ℕ} → field_at s at ≡ got letter start len next → GotAt s at letter start len next
  got_is e = rw e at seen

  bad_is : field_at s at ≡ None → (length s < at + 3) ⊎ ((at + 3 ≤ length s) × (length s < at + 3 + two_at s (at + 1)))
  bad_is e = rw e at seen

-- Fields that are read alike are alike.
part_of : (read.Field → ℕ) → Option read.Field → ℕ
part_of part None = 0
part_of part (Some f) = part f

pub record SameGot (letter start len next l b n x : ℕ) : Type 0 where
  pub letter_is : l ≡ letter
  pub start_is : b ≡ start
  pub len_is : n ≡ len
  pub next_is : x ≡ next

pub got_same : {letter start len next l b n x : ℕ} → got l b n x ≡ got letter start len next → SameGot letter start len next l b n x
unfolding part_of
got_same e =
    record {
      letter_is = ap (part_of (λ f. f.letter)) e;
      start_is = ap (part_of (λ f. f.start)) e;
      len_is = ap (part_of (λ f. f.len)) e;
      next_is = ap (part_of (λ f. f.next)) e;
    }

-- A field whose letter was tested.
pub got_letter : (s : List ℕ) (at : ℕ) {l letter start len next : ℕ} → field_at s at ≡ got l start len next → l ≡ letter
    → field_at s at ≡ got letter start len next
got_letter s at e q = e ∙ rw q

-- A byte at a position, and the rest; three bytes.
pub one_more : (s : List ℕ) (at : ℕ) → at < length s → drop at s ≡ get_or s at 0 ∷ drop (at + 1) s
one_more s at h = rw (add-one, drop-cons s at 0)

three : (s : List ℕ) (at : ℕ) → at + 3 ≤ length s → drop at s ≡ get_or s at 0 ∷ get_or s (at + 1) 0 ∷ get_or s (at + 1 + 1) 0 ∷ drop (at + 3) s
three s at h =
    let e : at + 1 + 1 + 1 ≡ at + 3 = omega arith in
    cc (one_more s at (omega arith), one_more s (at + 1) (omega arith), one_more s (at + 1 + 1) (omega arith))

-- Cutting: too few bytes, a length that passes the end, a length that does not.
short : (k : ℕ) (s : List ℕ) → 0 < length s → length s < 3 → cut (suc k) s ≡ bad
unfolding cut
short k [] p q = absurd (omega arith)
short k (l ∷ []) p q = refl
short k (l ∷ h ∷ []) p q = refl
short k (l ∷ h ∷ m ∷ s) p q = absurd (omega arith)

pub long : (k l h m : ℕ) (s : List ℕ) → length s < h * 256 + m → cut (suc k) (l ∷ h ∷ m ∷ s) ≡ bad
unfolding cut
long k l h m s p = rw (lt-leb _ _ p)

pub fit : (k l h m : ℕ) (s : List ℕ) → h * 256 + m ≤ length s
    → cut (suc k) (l ∷ h ∷ m ∷ s) ≡ record { letter = l; content = take (h * 256 + m) s } ▸ cut k (drop (h * 256 + m) s)
unfolding cut
fit k l h m s p = rw (le-leb _ _ p)

-- The three laws by which every loop over fields goes; no fuel is seen from here on.
module _ (s : List ℕ) (at : ℕ) where
  left : length (drop at s) ≡ length s - at
  left = length-drop at s

  -- One turn of the cutting, with fuel to spare.
  turn : fields_at s at ≡ cut (suc (length s)) (drop at s)
  unfolding fields_at
  turn = cut_same (length s) (suc (length s)) (drop at s) (omega (arith, left)) (omega (arith, left))

  pub fields_bad : at < length s → field_at s at ≡ None → fields_at s at ≡ bad
  fields_bad lt e = turn ∙ ⊎_elim few cut_off (bad_is s at e)
    where
      few : length s < at + 3 → cut (suc (length s)) (drop at s) ≡ bad
      few h = short (length s) (drop at s) (omega (arith, left)) (omega (arith, left))

      cut_off : (at + 3 ≤ length s) × (length s < at + 3 + two_at s (at + 1)) → cut (suc (length s)) (drop at s) ≡ bad
      cut_off h = rw (three s at h.0) (long (length s) _ _ _ _ (omega (arith, length-drop (at + 3) s, h.1)))

  pub fields_got : {letter start len next : ℕ} → field_at s at ≡ got letter start len next
      → fields_at s at ≡ field_of s letter start len ▸ fields_at s next
  unfolding fields_at stretch
  fields_got {letter} {start} {len} {next} e =
      let g = got_is s at e in
      let f : at + 3 ≤ length s = omega arith in
      let h : two_at s (at + 1) ≤ length (drop (at + 3) s) = omega (arith, length-drop (at + 3) s) in
      let d : start + len ≡ next = g.next_is in
      turn ∙ cc (
        three s at f,
        fit (length s) (get_or s at 0) (get_or s (at + 1) 0) (get_or s (at + 1 + 1) 0) (drop (at + 3) s) h,
        drop-drop len start s,
        g.letter_is,
        g.start_is,
        g.len_is,
      )

  pub fields_end : length s ≤ at → fields_at s at ≡ end
  unfolding fields_at cut
  fields_end le = go (length s) (drop at s) (omega (arith, left))
    where
      go : (k : ℕ) (t : List ℕ) → length t ≤ 0 → cut k t ≡ end
      go zero [] z = refl
      go zero (x ∷ t) z = absurd (omega arith)
      go (suc k) [] z = refl
      go (suc k) (x ∷ t) z = absurd (omega arith)

-- All fields are those from the first byte on.
pub fields_all : (s : List ℕ) → fields_of s ≡ fields_at s 0
unfolding fields_of fields_at
fields_all s = refl
