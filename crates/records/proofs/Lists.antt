-- Laws of tests and of the definition's list functions.
use Prim.Native.Nat.{ℕ, zero, suc, ◌<◌}
use native.Mathlib.Omega.{arith}
use mathlib.Core.Bool.{Bool, true, false, not}
use mathlib.Core.List.{List, [], ◌∷◌, ◌++◌}
use mathlib.Core.Option.{none, some}
use mathlib.Core.Path.{◌≡◌, refl}
use lib.Dec.{ltb}
use lib.ListN.{length, get_or}
use borrow.Author.Tests.{eq-eqb, ne_eqb, lt-ltb, le-ltb}
use Rattle.definition.specs.Base.{cons_if, keep, all, last_of, empty}
use Rattle.definition.specs.Records.{Field, with_letter}
use Rattle.laws.proofs.Lists.{and_left, and_right}

module _ {A : Type 0} where
  pub keep_append : (p : A → Bool) (xs ys : List A) → keep p (xs ++ ys) ≡ keep p xs ++ keep p ys
  unfolding keep
  keep_append p [] ys = refl
  keep_append p (x ∷ xs) ys = go (p x) (keep_append p xs ys)
    where
      go : (b : Bool) → keep p (xs ++ ys) ≡ keep p xs ++ keep p ys → cons_if b x (keep p (xs ++ ys)) ≡ cons_if b x (keep p xs) ++ keep p ys
      go true e = rw e
      go false e = e

  pub all_get : (p : A → Bool) (xs : List A) (i : ℕ) (d : A) → all p xs ≡ true → i < length xs → p (get_or xs i d) ≡ true
  unfolding all
  all_get p [] i d e h = absurd (omega arith)
  all_get p (x ∷ xs) zero d e h = and_left (p x) (all p xs) e
  all_get p (x ∷ xs) (suc i) d e h = all_get p xs i d (and_right (p x) (all p xs) e) (omega arith)

  -- A list is empty or has a last member.
  pub has_some : (xs : List A) → ltb 0 (length xs) ≡ not (empty xs)
  has_some [] = le-ltb 0 0 (omega arith)
  has_some (x ∷ xs) = lt-ltb 0 (suc (length xs)) (omega arith)

  pub last_none : (xs : List A) → length xs ≡ 0 → last_of xs ≡ none
  unfolding last_of
  last_none [] e = refl
  last_none (x ∷ xs) e = absurd (omega arith)

  pub last_some : (xs : List A) (n : ℕ) (d : A) → length xs ≡ suc n → last_of xs ≡ some (get_or xs n d)
  unfolding last_of
  last_some [] n d e = absurd (omega arith)
  last_some (x ∷ []) zero d e = refl
  last_some (x ∷ []) (suc n) d e = absurd (omega arith)
  last_some (x ∷ y ∷ xs) zero d e = absurd (omega arith)
  last_some (x ∷ y ∷ xs) (suc n) d e = rw (last_some (y ∷ xs) n d (omega arith))

-- The fields of a letter, where the first field is of it and where it is not.
module _ (letter : ℕ) {f : Field} {fs gs : List Field} (e : gs ≡ f ∷ fs) where
  pub letter_yes : f.letter ≡ letter → with_letter letter gs ≡ f ∷ with_letter letter fs
  unfolding with_letter keep
  letter_yes q = rw (e, eq-eqb f.letter letter q)

  pub letter_no : (f.letter ≡ letter → ⊥) → with_letter letter gs ≡ with_letter letter fs
  unfolding with_letter keep
  letter_no q = rw (e, ne_eqb f.letter letter q)
