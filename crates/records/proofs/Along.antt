-- Loops along one or two stretches: what is left at an index, and a turn of each.
use Prim.Native.Nat.{ℕ, ◌+◌, ◌≤◌, ◌<◌}
use mathlib.Core.Bool.{Bool, true, false}
use mathlib.Core.List.{List, [], ◌∷◌}
use mathlib.Core.Path.{◌≡◌, refl, ◌∙◌}
use lib.ListN.{length, get_or, drop, drop_of_length-le}
use Rattle.definition.specs.Base.{all}
use Rattle.records.proofs.Link.{one_more}

-- What is left of a list at an index.
module _ (xs : List ℕ) {n i : ℕ} (e : length xs ≡ n) where
  left_on : i < n → {x : ℕ} → get_or xs i 0 ≡ x → drop i xs ≡ x ∷ drop (i + 1) xs
  left_on h g = one_more xs i (rw e h) ∙ rw g

  left_end : n ≤ i → drop i xs ≡ []
  left_end h = let l : length xs ≤ i = rw e h in drop_of_length-le xs l

-- A test of each member from an index on.
unfoldable pub all_from : (ℕ → Bool) → List ℕ → ℕ → Bool
all_from p xs i = all p (drop i xs)

module _ (p : ℕ → Bool) (xs : List ℕ) {n i : ℕ} (e : length xs ≡ n) where
  pub all_no : {x : ℕ} → i < n → get_or xs i 0 ≡ x → p x ≡ false → all_from p xs i ≡ false
  unfolding all_from all
  all_no l g q = rw (left_on xs e l g, q)

  pub all_on : {x : ℕ} → i < n → get_or xs i 0 ≡ x → p x ≡ true → all_from p xs i ≡ all_from p xs (i + 1)
  unfolding all_from all
  all_on l g q = rw (left_on xs e l g, q)

  pub all_end : n ≤ i → all_from p xs i ≡ true
  unfolding all_from all
  all_end l = rw (left_end xs e l)

pub all_start : (p : ℕ → Bool) (xs : List ℕ) → all p xs ≡ all_from p xs 0
unfolding all_from
all_start p xs = refl
