-- Stretches of bytes and the numbers in them.
use Prim.Native.Nat.{ℕ, zero, suc, ◌+◌, ◌-◌, ◌*◌, ◌/◌, ◌%◌, ◌^◌, ◌≤◌, ◌<◌}
use native.Mathlib.Omega.{arith}
use mathlib.Core.List.{List, [], ◌∷◌}
use mathlib.Core.Path.{◌≡◌, refl, sym, ◌∙◌}
use lib.Bits.{bit_and, and_mask}
use lib.ListN.{length, get_or, take, drop, length-drop}
use lib.Seq.{drop-drop, get_or-take, get_or-drop, length-take-le, take-take, take-nil}
use Rattle.definition.specs.Records.{numbers, number_at}
use Rattle.records.specs.Places.{two_at, stretch}
use Rattle.laws.proofs.Numbers.{double_suc, length_numbers}

-- The low bits of a number are what a division by a power of two leaves of it: a test of either is one of the other.
pub low_bits : (n k : ℕ) {m : ℕ} → bit_and n (2 ^ k - 1) ≡ m → n % 2 ^ k ≡ m
low_bits n k e = sym (and_mask n k) ∙ e

pub low_bits_not : (n k : ℕ) {m : ℕ} → (bit_and n (2 ^ k - 1) ≡ m → ⊥) → n % 2 ^ k ≡ m → ⊥
low_bits_not n k h e = h (and_mask n k ∙ e)

-- A stretch has as many bytes as it says, and they are the record's.
pub length_stretch : (s : List ℕ) (start len : ℕ) → start + len ≤ length s → length (stretch s start len) ≡ len
unfolding stretch
length_stretch s start len h = let x : len ≤ length (drop start s) = rw length-drop (omega arith) in length-take-le len (drop start s) x

pub stretch_at : (s : List ℕ) (start len i : ℕ) → i < len → get_or (stretch s start len) i 0 ≡ get_or s (start + i) 0
unfolding stretch
stretch_at s start len i h = rw (get_or-take, get_or-drop)

drop_take : (k n : ℕ) (s : List ℕ) → drop k (take n s) ≡ take (n - k) (drop k s)
drop_take zero n s = let e : n - 0 ≡ n = omega arith in rw e
drop_take (suc k) zero s = let e : 0 - suc k ≡ 0 = omega arith in rw e
drop_take (suc k) (suc n) [] = sym (take-nil (suc n - suc k))
drop_take (suc k) (suc n) (x ∷ s) = let e : suc n - suc k ≡ n - k = omega arith in rw e (drop_take k n s)

-- The rest and the front of a stretch.
pub drop_stretch : (s : List ℕ) (start len k : ℕ) → drop k (stretch s start len) ≡ stretch s (start + k) (len - k)
unfolding stretch
drop_stretch s start len k = drop_take k len (drop start s) ∙ rw drop-drop

pub take_stretch : (s : List ℕ) (start len k : ℕ) → k ≤ len → take k (stretch s start len) ≡ stretch s start k
unfolding stretch
take_stretch s start len k h = take-take k len (drop start s) h

pub numbers_at : (s : List ℕ) (i : ℕ) → i < length s / 2 → get_or (numbers s) i 0 ≡ two_at s (2 * i)
unfolding numbers
numbers_at [] i h = absurd (omega arith)
numbers_at (a ∷ []) i h = absurd (omega arith)
numbers_at (a ∷ b ∷ s) zero h = refl
numbers_at (a ∷ b ∷ s) (suc i) h = let e : 2 * suc i + 1 ≡ suc (suc (2 * i + 1)) = omega arith in rw (e, double_suc i) (numbers_at s i (omega arith))

-- The numbers of a stretch.
module _ (s : List ℕ) (start len : ℕ) (h : start + len ≤ length s) where
  pub length_numbers_in : length (numbers (stretch s start len)) ≡ len / 2
  length_numbers_in = length_numbers (stretch s start len) ∙ rw (length_stretch s start len h)

  pub numbers_in_lem : (i : ℕ) → i < len / 2 → get_or (numbers (stretch s start len)) i 0 ≡ two_at s (start + 2 * i)
  numbers_in_lem i l =
      let n : length (stretch s start len) ≡ len = length_stretch s start len h in
      let e : start + (2 * i + 1) ≡ start + 2 * i + 1 = omega arith in
      numbers_at (stretch s start len) i (rw n l) ∙ rw (stretch_at s start len (2 * i) (omega arith), stretch_at s start len (2 * i + 1) (omega arith), e)

  pub number_in : (i : ℕ) → i < len / 2 → number_at i (stretch s start len) ≡ two_at s (start + 2 * i)
  unfolding number_at
  number_in = numbers_in_lem
