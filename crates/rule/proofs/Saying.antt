-- What the fields of an accepted rule say, by their positions.
use Prim.Native.Nat.{ℕ, ◌+◌, ◌-◌, ◌*◌, ◌/◌, ◌≤◌, ◌<◌}
use native.Mathlib.Omega.{arith}
use native.Mathlib.Nat.{add-zero}
use mathlib.Core.List.{List, [], ◌∷◌}
use mathlib.Core.Path.{◌≡◌, refl, sym, ◌∙◌}
use lib.ListN.{length, get_or, drop, length-drop}
use Rattle.definition.specs.Base.{each}
use Rattle.definition.specs.Letters.{letter_s}
use Rattle.definition.specs.Records.{Field, numbers, number_at, with_letter, blocks}
use Rattle.definition.specs.Rule.{Element, rule_part, rule_of, structure_of, element_of, map_of}
use Rattle.definition.specs.Names.{numbers_of}
use Rattle.definition.specs.Walk.{structure_at, no_structure}
use Rattle.laws.proofs.Lists.{length_each, get_d_each}
use Rattle.records.specs.Places.{two_at, stretch, field_of, Run}
use Rattle.records.proofs.Numbers.{length_numbers_in, number_in}
use Rattle.rule.specs.Layout.{letter_at, no_block, block_at, place_m, place_x, behind_from, behind_to, number_of, back}
use Rattle.rule.specs.Elements.{element_fields, element_numbers, Elements}
use Rattle.rule.specs.Lookup.{Ready, rule_at}
use Rattle.rule.proofs.PairLaws.{pairs_length}

-- The numbers of a content.
module _ (s : List ℕ) (start len : ℕ) (h : start + len ≤ length s) where
  number : (i : ℕ) → 2 * i + 2 ≤ len → number_at i (stretch s start len) ≡ two_at s (start + 2 * i)
  number i l = number_in s start len h i (omega arith)

  first_number : 2 ≤ len → number_at 0 (stretch s start len) ≡ two_at s start
  first_number l = number 0 l ∙ rw (add-zero start)

  later_count : (k : ℕ) → length (drop k (numbers (stretch s start len))) ≡ len / 2 - k
  later_count k = let n = length_numbers_in s start len h in rw length-drop (omega arith)

  module _ (letter : ℕ) where
    pub source_is : 4 ≤ len → two_at s start ≡ (map_of (field_of s letter start len)).source
    unfolding map_of
    source_is l = sym (first_number (omega arith))

    pub target_is : 4 ≤ len → two_at s (start + 2) ≡ (map_of (field_of s letter start len)).target
    unfolding map_of
    target_is l = sym (number 1 l)

    pub pairs_are : (len - 4) / 4 ≡ length (map_of (field_of s letter start len)).pairs
    unfolding map_of
    pairs_are = let n = later_count 2 in let m = pairs_length (drop 2 (numbers (stretch s start len))) in omega arith

pub numbers_each : (fs : List Field) → each (λ (f : Field). number_at 0 f.content) fs ≡ each (λ (e : Element). e.number) (each element_of fs)
unfolding each element_of
numbers_each [] = refl
numbers_each (f ∷ fs) = rw (numbers_each fs)

module _ {s index : List ℕ} (w : Ready s index) where
  abbrev fields : List Field
  fields = (rule_part s).fields

  -- The number of structures.
  pub structures_are : length (rule_at s).structures ≡ w.count
  unfolding rule_at rule_of
  structures_are = length_each structure_of (blocks letter_s fields) ∙ sym w.indexed.counted

  -- The section of M, K or X.
  pub tail_run_at : (q : ℕ) → place_m ≤ q → q ≤ place_x
      → Run s (get_or index (number_of (back q)) 0) (get_or index (number_of (back q) + 1) 0) (with_letter (letter_at q) fields)
  unfolding behind_from behind_to
  tail_run_at q lo hi = w.indexed.tail.run q lo hi

  module _ {k : ℕ} (h : k < length (rule_at s).structures) where
    in_count : k < w.count
    in_count = rw structures_are at h

    pub known_at : Elements s index k
    known_at = w.indexed.known.elements k in_count

    structure_is : structure_at (rule_at s) k ≡ structure_of (block_at fields k)
    unfolding rule_at rule_of
    structure_is = get_d_each structure_of (blocks letter_s fields) k no_block no_structure (omega (arith, in_count, w.indexed.counted))

    elements_are : (structure_at (rule_at s) k).elements ≡ each element_of (element_fields s index k)
    unfolding structure_of
    elements_are = rw (structure_is, w.indexed.holds k in_count)

    pub numbers_are : element_numbers s index k ≡ numbers_of (structure_at (rule_at s) k)
    unfolding element_numbers numbers_of
    numbers_are = rw elements_are (numbers_each (element_fields s index k))
