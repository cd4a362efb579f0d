-- The elements of a structure, as the index has them.
use Rattle.std.specs.Prelude.{ℕ, ◌+◌, ◌%◌, ◌≤◌, ◌<◌, List, ◌≡◌, length}
use Rattle.definition.specs.Base.{each}
use Rattle.definition.specs.Limits.{parent_limit}
use Rattle.definition.specs.Rule.{Element, element_of}
use Rattle.records.specs.Places.{two_at}
use Rattle.records.specs.Held.{field_in}
use Rattle.rule.specs.Elements.{count_at, position_at, element_fields, Elements}

unfoldable pub element_in : List ℕ → List ℕ → ℕ → ℕ → Element
element_in s index k i = element_of (field_in s (position_at index k i))

unfoldable pub elements_in : List ℕ → List ℕ → ℕ → List Element
elements_in s index k = each element_of (element_fields s index k)

-- The length of an element's E field.
abbrev pub size_at : List ℕ → List ℕ → ℕ → ℕ → ℕ
size_at s index k i = two_at s (position_at index k i + 1)

-- Their fields are whole numbers; they have at most 4 parents, and those of one type have equally many.
pub record ElementsAt (s index : List ℕ) (k : ℕ) : Type 0 where
  pub elements : Elements s index k
  pub even : (i : ℕ) → i < count_at index k → size_at s index k i % 2 ≡ 0
  pub few : (i : ℕ) → i < count_at index k → length (element_in s index k i).parents ≤ parent_limit
  pub alike : (i j : ℕ) → i < count_at index k → j < count_at index k → (element_in s index k i).type ≡ (element_in s index k j).type
      → length (element_in s index k i).parents ≡ length (element_in s index k j).parents
