-- What the content of a row says.
use Prim.Native.Nat.{ℕ, ◌≤◌, ◌<◌}
use native.Mathlib.Omega.{arith}
use mathlib.Core.List.{List, [], ◌∷◌}
use mathlib.Core.Path.{◌≡◌, refl}
use lib.ListN.{length, take, drop}
use Rattle.definition.specs.Records.{numbers, number_at}
use Rattle.definition.specs.Rule.{row_of}
use Rattle.laws.proofs.Numbers.{drop_numbers}
use Rattle.records.specs.Places.{two_at}
use Rattle.records.proofs.Numbers.{numbers_at}

pub row_short : (kind letter : ℕ) (content : List ℕ) → length content < 2
    → record { kind = kind; symbol = 0; elements = numbers (take 0 content) } ≡ row_of kind (record { letter = letter; content = content })
unfolding row_of number_at numbers
row_short kind letter [] h = refl
row_short kind letter (x ∷ []) h = refl
row_short kind letter (x ∷ y ∷ s) h = absurd (omega arith)

pub row_long : (kind letter : ℕ) (content : List ℕ) → 2 ≤ length content
    → record { kind = kind; symbol = two_at content 0; elements = numbers (drop 2 content) } ≡ row_of kind (record { letter = letter; content = content })
unfolding row_of number_at
row_long kind letter content h = rw (drop_numbers 1 content, numbers_at content 0 (omega arith))
