-- Fields that an index holds by their positions.
use Rattle.std.specs.Prelude.{List, [], ◌∷◌, ℕ, zero, suc, ◌+◌, get_or}
use Rattle.definition.specs.Records.{Field}
use Rattle.records.specs.Places.{two_at, field_of}

-- The field that stands at a position.
unfoldable pub field_in : List ℕ → ℕ → Field
field_in s p = field_of s (get_or s p 0) (p + 3) (two_at s (p + 1))

-- The fields whose positions stand in an index, count of them from an entry on.
unfoldable pub held_at : List ℕ → List ℕ → ℕ → ℕ → List Field
held_at s index from zero = []
held_at s index from (suc count) = field_in s (get_or index from 0) ∷ held_at s index (from + 1) count
