-- The elements that the index has, and how one is found.
use Rattle.std.specs.Prelude.{Option, Some, None, true, false, List, ◌≡◌, ℕ, ◌+◌, ◌*◌, ◌≤◌, ◌<◌, leb, length, get_or, take}
use Rattle.definition.specs.Base.{each, keep, has, span, place_from}
use Rattle.definition.specs.Limits.{structure_limit, field_limit}
use Rattle.definition.specs.Records.{Field, number_at}
use Rattle.records.specs.Places.{two_at}
use Rattle.records.specs.Held.{held_at}
use Rattle.records.specs.Iter.{EndOf}
use Rattle.rule.specs.Layout.{elements_from, counts_from}

-- How many elements a structure has, where the field of one stands, and its number.
abbrev pub count_at : List ℕ → ℕ → ℕ
count_at index k = get_or index (counts_from + k) 0

abbrev pub position_at : List ℕ → ℕ → ℕ → ℕ
position_at index k i = get_or index (elements_from + field_limit * k + i) 0

abbrev pub element_at : List ℕ → List ℕ → ℕ → ℕ → ℕ
element_at s index k i = two_at s (position_at index k i + 3)

-- The E fields of a structure, and their numbers; those of the first n structures.
unfoldable pub element_fields : List ℕ → List ℕ → ℕ → List Field
element_fields s index k = held_at s index (elements_from + field_limit * k) (count_at index k)

unfoldable pub element_numbers : List ℕ → List ℕ → ℕ → List ℕ
element_numbers s index k = each (λ (f : Field). number_at 0 f.content) (element_fields s index k)

unfoldable pub numbers_in : List ℕ → List ℕ → ℕ → List (List ℕ)
numbers_in s index n = each (element_numbers s index) (span n 0)

-- A part ends at a position of the record; it lies in the record where it isn't empty.
pub record Lies (s : List ℕ) (to : ℕ) (part : List ℕ) : Type 0 where
  pub end : EndOf (take to s) part
  pub within : 0 < length part → to ≤ length s

-- The elements that E fields declare: one of at least two bytes can be named.
unfoldable pub named_by : List Field → List ℕ
named_by fs = each (λ (f : Field). number_at 0 f.content) (keep (λ (f : Field). leb 2 (length f.content)) fs)

-- The elements of a structure: they are few, their fields lie in the record, and their numbers ascend.
pub record Elements (s index : List ℕ) (k : ℕ) : Type 0 where
  pub few : count_at index k ≤ field_limit
  pub sized : (i : ℕ) → i < count_at index k → 4 ≤ two_at s (position_at index k i + 1)
  pub inside : (i : ℕ) → i < count_at index k → position_at index k i + 3 + two_at s (position_at index k i + 1) ≤ length s
  pub ascend : (i j : ℕ) → i < j → j < count_at index k → element_at s index k i < element_at s index k j

pub record Known (s index : List ℕ) (n : ℕ) : Type 0 where
  pub few : n ≤ structure_limit
  pub elements : (k : ℕ) → k < n → Elements s index k

-- The place of a number in a list, or that it is not in it.
abbrev FoundAt : Option ℕ → ℕ → List ℕ → Type 0
FoundAt (Some i) e xs = (i ≡ place_from 0 e xs) × (i < length xs) × (has e xs ≡ true)
FoundAt None e xs = has e xs ≡ false

pub record Finds (r : Option ℕ) (e : ℕ) (xs : List ℕ) : Type 0 where
  pub is : FoundAt r e xs
