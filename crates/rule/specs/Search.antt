-- A search among numbers that ascend.
use Rattle.std.specs.Prelude.{Option, Some, None, ◌≡◌, ℕ, ◌<◌}

-- What is told of each place is its key, and the keys ascend.
pub record KeysAre (told : ℕ → ℕ → Type 0) (count : ℕ) (keys : ℕ → ℕ) : Type 0 where
  pub tell : (i x : ℕ) → i < count → told i x → x ≡ keys i
  pub ascend : (i j : ℕ) → i < j → j < count → keys i < keys j

-- The place of a number, or that it is no key.
abbrev PlacedAt : Option ℕ → ℕ → ℕ → (ℕ → ℕ) → Type 0
PlacedAt (Some i) count e keys = (i < count) × (keys i ≡ e)
PlacedAt None count e keys = (i : ℕ) → i < count → keys i ≡ e → ⊥

pub record Places (r : Option ℕ) (count e : ℕ) (keys : ℕ → ℕ) : Type 0 where
  pub is : PlacedAt r count e keys
