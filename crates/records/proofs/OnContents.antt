-- Contents: the order of two from a place on, and that of their numbers.
use Prim.Native.Nat.{ℕ, zero, suc, ◌+◌, ◌*◌, ◌/◌, ◌%◌, ◌≤◌, ◌<◌, min}
use native.Mathlib.Omega.{arith}
use mathlib.Core.Bool.{Bool, true, false}
use mathlib.Core.List.{List, [], ◌∷◌}
use mathlib.Core.Path.{◌≡◌, refl, sym, ◌∙◌}
use lib.Dec.{ltb}
use lib.ListN.{length, get_or, take, drop, length-take}
use lib.Seq.{take_all}
use Rattle.laws.proofs.Numbers.{take_numbers, length_numbers}
use Rattle.records.proofs.Pairs.{less_pairs}
use borrow.Author.Tests.{lt-ltb, le-ltb, ltb-true, ltb-false}
use Rattle.definition.specs.Base.{pick, less}
use Rattle.definition.specs.Records.{numbers}
use Rattle.records.proofs.Link.{one_more}

-- The order of two lists from a place on, where they are the same so far.
module _ (xs ys : List ℕ) (i : ℕ) where
  module _ (h : i < length xs) (k : i < length ys) where
    pub less_same : get_or xs i 0 ≡ get_or ys i 0 → less (drop i xs) (drop i ys) ≡ less (drop (i + 1) xs) (drop (i + 1) ys)
    unfolding less
    less_same e =
        rw (one_more xs i h, one_more ys i k, le-ltb (get_or xs i 0) (get_or ys i 0) (omega arith), le-ltb (get_or ys i 0) (get_or xs i 0) (omega arith))

    pub less_differ : (get_or xs i 0 ≡ get_or ys i 0 → ⊥) → less (drop i xs) (drop i ys) ≡ ltb (get_or xs i 0) (get_or ys i 0)
    unfolding less
    less_differ e = rw (one_more xs i h, one_more ys i k) (go (ltb (get_or xs i 0) (get_or ys i 0)) refl)
      where
        go : (t : Bool) → ltb (get_or xs i 0) (get_or ys i 0) ≡ t
            → pick t true (pick (ltb (get_or ys i 0) (get_or xs i 0)) false (less (drop (i + 1) xs) (drop (i + 1) ys))) ≡ t
        go true q = refl
        go false q = rw (lt-ltb (get_or ys i 0) (get_or xs i 0) (omega (arith, ltb-false, e)))

pub less_over : (xs ys : List ℕ) (i : ℕ) → i ≡ min (length xs) (length ys) → less (drop i xs) (drop i ys) ≡ ltb (length xs) (length ys)
unfolding less
less_over [] [] zero e = sym (le-ltb 0 0 (omega arith))
less_over [] (y ∷ ys) zero e = sym (lt-ltb 0 (suc (length ys)) (omega arith))
less_over (x ∷ xs) [] zero e = sym (le-ltb (suc (length xs)) 0 (omega arith))
less_over (x ∷ xs) (y ∷ ys) zero e = absurd (omega arith)
less_over [] ys (suc i) e = absurd (omega arith)
less_over (x ∷ xs) [] (suc i) e = absurd (omega arith)
less_over (x ∷ xs) (y ∷ ys) (suc i) e = less_over xs ys i (omega arith) ∙ go (ltb (length xs) (length ys)) refl
  where
    go : (t : Bool) → ltb (length xs) (length ys) ≡ t → t ≡ ltb (suc (length xs)) (suc (length ys))
    go true q = sym (lt-ltb (suc (length xs)) (suc (length ys)) (omega (arith, ltb-true)))
    go false q = sym (le-ltb (suc (length xs)) (suc (length ys)) (omega (arith, ltb-false)))

first_bytes : (n : ℕ) (s : List ℕ) → ((i : ℕ) → get_or s i 0 < 256) → (i : ℕ) → get_or (take n s) i 0 < 256
first_bytes zero s h i = omega arith
first_bytes (suc n) [] h i = omega arith
first_bytes (suc n) (x ∷ s) h zero = h 0
first_bytes (suc n) (x ∷ s) h (suc i) = first_bytes n s (λ j. h (suc j)) i

-- An odd byte at the end is no number.
module _ (s : List ℕ) where
  even : numbers s ≡ numbers (take (length s / 2 * 2) s)
  even =
      let l : length (numbers s) ≤ length s / 2 = omega (arith, length_numbers s) in
      let d : 2 * (length s / 2) ≡ length s / 2 * 2 = omega arith in
      sym (take_all (length s / 2) (numbers s) l) ∙ take_numbers (length s / 2) s ∙ rw d

  even_length : length (take (length s / 2 * 2) s) % 2 ≡ 0
  even_length = rw length-take (omega arith)

pub numbers_less : (xs ys : List ℕ) → ((i : ℕ) → get_or xs i 0 < 256) → ((i : ℕ) → get_or ys i 0 < 256)
    → less (take (length xs / 2 * 2) xs) (take (length ys / 2 * 2) ys) ≡ less (numbers xs) (numbers ys)
numbers_less xs ys a b = sym (rw (even xs, even ys) (less_pairs _ _ (first_bytes _ xs a) (first_bytes _ ys b) (even_length xs) (even_length ys)))
