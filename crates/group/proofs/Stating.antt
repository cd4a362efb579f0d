-- What a B or H field says, by its content's bytes.
use native.Mathlib.Omega.{arith}
use Prim.Native.Nat.{ℕ, ◌≤◌}
use mathlib.Core.List.{List, [], ◌∷◌}
use mathlib.Core.Path.{◌≡◌, refl}
use lib.ListN.{length, get_or, drop}
use Rattle.definition.specs.Records.{Field, numbers, number_at}
use Rattle.definition.specs.Group.{statement_of}
use Rattle.records.specs.Places.{two_at}

pub statement_is : (f : Field) → 3 ≤ length f.content
    → record { kind = get_or f.content 0 0; symbol = two_at f.content 1; variables = numbers (drop 3 f.content) } ≡ statement_of f
unfolding statement_of number_at numbers
statement_is f = go f.content
  where
    go : (s : List ℕ) → 3 ≤ length s
        → record { kind = get_or s 0 0; symbol = two_at s 1; variables = numbers (drop 3 s) } ≡ statement_of (record { letter = f.letter; content = s })
    go [] h = absurd (omega arith)
    go (k ∷ []) h = absurd (omega arith)
    go (k ∷ a ∷ []) h = absurd (omega arith)
    go (k ∷ a ∷ b ∷ s) h = refl
