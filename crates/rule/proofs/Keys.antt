-- What the fields of a letter are ordered by, as the first bytes of a content.
use Prim.Native.Nat.{ℕ, zero, suc, ◌-◌, ◌*◌, ◌/◌, ◌<◌, min}
use native.Mathlib.Omega.{arith}
use native.Mathlib.Decide.{dec_lt}
use mathlib.Core.List.{List, [], ◌∷◌}
use mathlib.Core.Path.{◌≡◌, refl, sym, ◌∙◌}
use lib.ListN.{length, take}
use lib.Seq.{take_all}
use Rattle.definition.specs.Records.{numbers}
use Rattle.laws.proofs.Numbers.{length_numbers}

-- The numbers of a content's first bytes.
numbers_take : (k : ℕ) (xs : List ℕ) → numbers (take k xs) ≡ take (k / 2) (numbers xs)
unfolding numbers
numbers_take zero xs = refl
numbers_take (suc zero) [] = refl
numbers_take (suc zero) (x ∷ []) = refl
numbers_take (suc zero) (x ∷ y ∷ xs) = refl
numbers_take (suc (suc k)) [] = let e : suc (suc k) / 2 ≡ suc (k / 2) = omega arith in rw e
numbers_take (suc (suc k)) (x ∷ []) = let e : suc (suc k) / 2 ≡ suc (k / 2) = omega arith in rw e
numbers_take (suc (suc k)) (x ∷ y ∷ xs) = let e : suc (suc k) / 2 ≡ suc (k / 2) = omega arith in rw (e, numbers_take k xs)

module _ (s : List ℕ) where
  -- The first ones, of which there may be fewer.
  pub first_key : (c : ℕ) → numbers (take (min (length s) (2 * c)) s) ≡ take c (numbers s)
  first_key c = numbers_take (min (length s) (2 * c)) s ∙ go (dec_lt (length s) (2 * c))
    where
      go : Dec (length s < 2 * c) → take (min (length s) (2 * c) / 2) (numbers s) ≡ take c (numbers s)
      go (yes l) = let n = length_numbers s in
          take_all (min (length s) (2 * c) / 2) (numbers s) (omega arith) ∙ sym (take_all c (numbers s) (omega arith))
      go (no l) = let z : min (length s) (2 * c) / 2 ≡ c = omega arith in rw z

  -- All but the last ones.
  pub front_key : (c : ℕ) → numbers (take (length s - 2 * c) s) ≡ take (length (numbers s) - c) (numbers s)
  front_key c =
      let n = length_numbers s in
      let z : (length s - 2 * c) / 2 ≡ length (numbers s) - c = omega arith in
      numbers_take (length s - 2 * c) s ∙ rw z
