-- The elements of a structure: what their fields say, and the list of them.
use Prim.Native.Nat.{ℕ, ◌+◌, ◌-◌, ◌*◌, ◌/◌, ◌%◌, ◌≤◌, ◌<◌}
use native.Mathlib.Omega.{arith}
use mathlib.Core.List.{List, []}
use mathlib.Core.Path.{◌≡◌, sym, ◌∙◌, ap}
use lib.ListN.{length, get_or, take, drop}
use Rattle.definition.specs.Limits.{field_limit, parent_limit}
use Rattle.definition.specs.Letters.{start}
use Rattle.definition.specs.Records.{Field, numbers, number_at}
use Rattle.definition.specs.Rule.{element_of}
use Rattle.laws.proofs.Lists.{length_each, get_d_each}
use Rattle.records.specs.Places.{two_at, stretch}
use Rattle.records.specs.Held.{field_in, held_at}
use Rattle.records.proofs.Index.{length_held, held_get}
use Rattle.records.proofs.Numbers.{drop_stretch, number_in, length_numbers_in}
use Rattle.laws.proofs.Numbers.{drop_numbers}
use Rattle.rule.specs.Layout.{elements_from}
use Rattle.rule.specs.Elements.{count_at, position_at, element_at, element_fields, element_numbers, Elements}
use Rattle.rule.specs.Views.{no_element, listed_numbers, Listed}
use Rattle.rule.specs.ElementFields.{element_in, elements_in, size_at, ElementsAt}
use Rattle.rule.proofs.Finding.{numbers_get, numbers_ascend}
use Rattle.rule.proofs.Saying.{numbers_each}

-- One element's field.
module _ {s index : List ℕ} {k : ℕ} (h : Elements s index k) (i : ℕ) (l : i < count_at index k) where
  abbrev at : ℕ
  at = position_at index k i

  abbrev size : ℕ
  size = size_at s index k i

  pub element_lies : (4 ≤ size) × (at + 3 + size ≤ length s)
  element_lies = (h.sized i l, h.inside i l)

  number_at_lem : (j : ℕ) → j < 2 → number_at j (stretch s (at + 3) size) ≡ two_at s (at + 3 + 2 * j)
  number_at_lem j q = let w = element_lies in number_in s (at + 3) size w.1 j (omega arith)

  number_is : (element_in s index k i).number ≡ element_at s index k i
  unfolding element_in element_of field_in
  number_is = let e : at + 3 + 2 * 0 ≡ at + 3 = omega arith in number_at_lem 0 (omega arith) ∙ rw e

  type_is : (element_in s index k i).type ≡ two_at s (at + 5)
  unfolding element_in element_of field_in
  type_is = let e : at + 3 + 2 * 1 ≡ at + 5 = omega arith in number_at_lem 1 (omega arith) ∙ rw e

  -- An odd byte at the end of the field is of no number.
  parents_are : (element_in s index k i).parents ≡ numbers (stretch s (at + 7) (size - 4))
  unfolding element_in element_of field_in
  parents_are =
      let a : at + 3 + 4 ≡ at + 7 = omega arith in
      drop_numbers 2 (stretch s (at + 3) size) ∙ rw (drop_stretch s (at + 3) size 4, a)

  pub element_is : record { number = two_at s (at + 3); type = two_at s (at + 5); parents = numbers (stretch s (at + 7) (size - 4)) }
      ≡ element_in s index k i
  element_is = rw (← number_is, ← type_is, ← parents_are)

-- Where the fields are whole numbers with few parents: how long one is.
pub element_within : {s index : List ℕ} {k : ℕ} → ElementsAt s index k → (i : ℕ) → i < count_at index k
    → (4 ≤ size_at s index k i) × (position_at index k i + 3 + size_at s index k i ≤ length s) × (size_at s index k i % 2 ≡ 0)
    × (size_at s index k i / 2 - 2 ≤ parent_limit)
element_within {s} {index} {k} w i l =
    let f = element_lies w.elements i l in
    let n = length_numbers_in s (position_at index k i + 7) (size_at s index k i - 4) (omega arith) in
    let p = rw (parents_are w.elements i l) at (w.few i l) in
    (f.0, f.1, w.even i l, omega arith)

-- The list of them.
abbrev no_field : Field
no_field = record { letter = start; content = [] }

module _ (s index : List ℕ) (k : ℕ) where
  fields_many : length (element_fields s index k) ≡ count_at index k
  unfolding element_fields
  fields_many = length_held s index (elements_from + field_limit * k) (count_at index k)

  pub elements_many : length (elements_in s index k) ≡ count_at index k
  unfolding elements_in
  elements_many = length_each element_of (element_fields s index k) ∙ fields_many

  pub below_count : {i : ℕ} → i < length (elements_in s index k) → i < count_at index k
  below_count l = rw elements_many at l

  pub elements_get : (i : ℕ) → i < count_at index k → get_or (elements_in s index k) i no_element ≡ element_in s index k i
  unfolding elements_in element_in element_fields
  elements_get i l =
      let n : length (held_at s index (elements_from + field_limit * k) (count_at index k)) ≡ count_at index k = fields_many in
      get_d_each element_of (held_at s index (elements_from + field_limit * k) (count_at index k)) i no_field no_element (omega arith)
      ∙ ap element_of (held_get s index (elements_from + field_limit * k) (count_at index k) i no_field l)

  -- Their numbers.
  pub list_numbers : element_numbers s index k ≡ listed_numbers (elements_in s index k)
  unfolding element_numbers elements_in
  list_numbers = numbers_each (element_fields s index k)

-- What is known of them.
module _ {s index : List ℕ} {k : ℕ} (h : Elements s index k) where
  pub list_number : (i : ℕ) → i < length (elements_in s index k) → element_at s index k i ≡ get_or (listed_numbers (elements_in s index k)) i 0
  list_number i l = sym (rw (← (list_numbers s index k)) (numbers_get h i (below_count s index k l)))

  pub listed : Listed (elements_in s index k)
  listed = record { few = rw (elements_many s index k) h.few; ascend = rw (← (list_numbers s index k)) (numbers_ascend h) }

  -- One of them, by what its field was read as.
  pub element_read : (i : ℕ) → i < length (elements_in s index k) → {bytes : List ℕ}
      → bytes ≡ take (size_at s index k i - 4) (drop (position_at index k i + 7) s)
      → record { number = two_at s (position_at index k i + 3); type = two_at s (position_at index k i + 5); parents = numbers bytes }
      ≡ get_or (elements_in s index k) i no_element
  unfolding stretch
  element_read i l e =
      let m = below_count s index k l in
      rw e (element_is h i m) ∙ sym (elements_get s index k i m)
