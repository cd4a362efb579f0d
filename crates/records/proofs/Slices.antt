-- The rest of a slice, and a test of each of its items, in the definition's words.
use Rattle.std.specs.Prelude.{ℕ, Bool, List, [], ◌∷◌, ◌≡◌, ◌-◌, length, take, drop}
use Rattle.std.specs.List.{list_all}
use mathlib.Core.Path.{refl}
use lib.ListN.{length-drop}
use lib.Seq.{take_all}
use native.Mathlib.Omega.{arith}
use Rattle.definition.specs.Base.{all}

-- The rest of a slice.
pub rest_is : (s : List ℕ) (k : ℕ) → take (length s - k) (drop k s) ≡ drop k s
rest_is s k = take_all (length s - k) (drop k s) (omega (arith, length-drop k s))

-- What holds of each item of a part.
pub all_is : {A : Type 0} (p : A → Bool) (xs : List A) → list_all p xs ≡ all p xs
unfolding all
all_is p [] = refl
all_is p (x ∷ xs) = rw (all_is p xs) refl
