-- The faults of a field, from the tests that the code makes.
use Prim.Native.Nat.{ℕ, ◌-◌, ◌≤◌, ◌<◌}
use native.Mathlib.Omega.{arith}
use native.Mathlib.Decide.{ℕ_discrete}
use mathlib.Core.Bool.{Bool, true, false, not, ◌||◌}
use mathlib.Core.List.{List, [], ◌∷◌}
use mathlib.Core.Logic.{◌⊎◌, inl, inr}
use mathlib.Core.Path.{◌≡◌, refl, sym, ◌∙◌, ap}
use mathlib.Core.Option.{Option}
use lib.Bits.{bit_and, and_mask}
use lib.Dec.{eqb, ltb, leb}
use lib.ListN.{length, get_or, take, drop}
use borrow.Author.Tests.{ltb-true, not-false, ne_eqb}
use Rattle.definition.specs.Base.{pick, less, span, all, lowest, empty}
use Rattle.definition.specs.Letters.{letter_n, letter_r, letter_a, letter_v, letter_i, letter_m, letter_k}
use Rattle.definition.specs.Limits.{structure_limit, map_limit}
use Rattle.definition.specs.Records.{Field, numbers, number_at, not_above}
use Rattle.definition.specs.Rule.{Pair, elements_at, keys_ascend, map_of, map_fault}
use Rattle.laws.proofs.Lists.{length_each, get_d_each, and_left, and_right, never}
use Rattle.laws.proofs.Numbers.{drop_numbers, take_numbers, length_numbers}
use Rattle.records.specs.Places.{two_at}
use Rattle.std.proofs.Common as std
use Rattle.std.proofs.Common.{Some, None, Bor}
use Rattle.rule.specs.Faults.{field_with, last_field, pair_named, AboveLast, InStructure, section_by}
use Rattle.rule.specs.declared.faults.SectionKind.{SectionKind}
use Rattle.rule.specs.declared.faults.SectionKind.TheVariants as section
use Rattle.rule.specs.Pairs.{pairs_in_bytes}
use Rattle.rule.specs.Elements.{element_numbers, numbers_in, Elements, Known}
use Rattle.rule.proofs.Letters.{get_d_span, length_span}

-- The elements that can be named in the first n structures.
pub named_length : (s index : List ℕ) (n : ℕ) → length (numbers_in s index n) ≡ n
unfolding numbers_in
named_length s index n = length_each (element_numbers s index) (span n 0) ∙ length_span n 0

pub named_at : (s index : List ℕ) (n k : ℕ) → k < n → elements_at (numbers_in s index n) k ≡ element_numbers s index k
unfolding numbers_in
named_at s index n k h =
    get_d_each (element_numbers s index) (span n 0) k 0 [] (rw (length_span n 0) h) ∙ ap (element_numbers s index) (get_d_span n 0 k 0 h ∙ omega arith)

-- The elements of the last structure.
pub last_named_lem : (s index : List ℕ) (n : ℕ) → 1 ≤ n
    → elements_at (numbers_in s index n) (length (numbers_in s index n) - 1) ≡ element_numbers s index (n - 1)
last_named_lem s index n h = rw (named_length s index n) (named_at s index n (n - 1) (omega arith))

-- The same of a list that is known to be theirs.
module _ {s index : List ℕ} {n : ℕ} {named : List (List ℕ)} (w : Known s index n) (v : numbers_in s index n ≡ named) {k : ℕ}
    (h : k < length named) where
  below : k < n
  below = rw (← v, named_length s index n) at h

  pub known_few : k < structure_limit
  known_few = let b = below in omega (arith, w.few)

  pub known_elements : Elements s index k
  known_elements = w.elements k below

  pub known_at : element_numbers s index k ≡ elements_at named k
  known_at = rw (← v) (sym (named_at s index n k below))

-- The numbers behind the first one or two.
pub behind_one : (s : List ℕ) → drop 1 (numbers s) ≡ numbers (drop 2 s)
behind_one s = drop_numbers 1 s

pub behind_two : (s : List ℕ) → drop 2 (numbers s) ≡ numbers (drop 4 s)
behind_two s = drop_numbers 2 s

pub first_two : (s : List ℕ) → take 2 (numbers s) ≡ numbers (take 4 s)
first_two s = take_numbers 2 s

-- A source and a target that can be named.
module _ (s : List ℕ) (n : ℕ) (e : all (λ (k : ℕ). ltb k n) (take 2 (numbers s)) ≡ true) (h : 4 ≤ length s) where
  pub ends_known : (number_at 0 s < n) × (number_at 1 s < n)
  unfolding number_at all
  ends_known = let l = length_numbers s in go (numbers s) (omega arith) e
    where
      go : (ns : List ℕ) → 2 ≤ length ns → all (λ (k : ℕ). ltb k n) (take 2 ns) ≡ true → (get_or ns 0 0 < n) × (get_or ns 1 0 < n)
      go [] l e = absurd (omega arith)
      go (x ∷ []) l e = absurd (omega arith)
      go (x ∷ y ∷ ns) l e = let r = and_right (ltb x n) _ e in (ltb-true x n (and_left _ _ e), ltb-true y n (and_left _ _ r))

-- An M field: its source and target, and its pairs.
module _ (named : List (List ℕ)) (before letter : ℕ) (last : Option Field) (content : List ℕ) where
  abbrev pairs : List Pair
  pairs = pairs_in_bytes (drop 4 content)

  pub map_tests : map_fault named before last (field_with letter content) ≡ lowest (
      (3, ltb (length content) 4 || not (eqb (bit_and (length content) 3) 0))
      ∷ (4, leb map_limit before)
      ∷ (
        5,
        not (all (λ (k : ℕ). ltb k (length named)) (take 2 (numbers content)))
            || not (all (pair_named (elements_at named (number_at 0 content)) (elements_at named (number_at 1 content))) pairs),
      )
      ∷ (6, not_above (λ (g : Field). take 2 (numbers g.content)) last (field_with letter content) || not (keys_ascend pairs)) ∷ [])
  unfolding map_fault map_of pair_named pairs_in_bytes
  map_tests = rw (and_mask (length content) 2, behind_two content)

-- A number above the last one.
one_number : (s : List ℕ) → 2 ≤ length s → take 1 (numbers s) ≡ two_at s 0 ∷ []
unfolding numbers
one_number [] h = absurd (omega arith)
one_number (x ∷ []) h = absurd (omega arith)
one_number (x ∷ y ∷ s) h = refl

less_one : (x y : ℕ) → less (x ∷ []) (y ∷ []) ≡ true → x < y
unfolding less
less_one x y e = go (ltb x y) refl e
  where
    flat : (b : Bool) → pick b false false ≡ false
    flat true = refl
    flat false = refl

    go : (b : Bool) → ltb x y ≡ b → pick b true (pick (ltb y x) false false) ≡ true → x < y
    go true p q = ltb-true x y p
    go false p q = never q (flat (ltb y x))

pub above_last : (content : List ℕ) (last : std.Option (Bor (List ℕ))) → 4 ≤ length content
    → not_above (λ (g : Field). take 1 (numbers g.content)) (last_field 0 last) (field_with 0 content) ≡ false → AboveLast last (two_at content 0)
above_last content None l e = tt
above_last content (Some g) l e = λ k.
    less_one (two_at g.now 0) (two_at content 0)
    (rw (one_number g.now k, one_number content (omega arith)) at (not-false (less (take 1 (numbers g.now)) (take 1 (numbers content))) e))

-- A content of which only the length is known.
pub empty_by : (f : Field) (len : ℕ) → length f.content ≡ len → empty f.content ≡ eqb len 0
empty_by f len e = rw (← e) (go f.content)
  where
    go : (xs : List ℕ) → empty xs ≡ eqb (length xs) 0
    go [] = refl
    go (x ∷ xs) = sym (ne_eqb (length (x ∷ xs)) 0 (λ q. omega arith))

-- A letter's section: where it is one of a structure, there is a structure.
module _ (n : ℕ) where
  in_any : (kind : SectionKind) → 1 ≤ n → InStructure kind n
  in_any section.Head h = tt
  in_any (section.Row kind) h = h
  in_any (section.Name kind) h = h
  in_any section.Map h = tt
  in_any section.Kind h = tt
  in_any section.Auxiliary h = tt

  in_none : (a b c : Bool) → InStructure (pick a section.Head (pick b section.Map (pick c section.Kind section.Auxiliary))) n
  in_none true b c = tt
  in_none false true c = tt
  in_none false false true = tt
  in_none false false false = tt

  pub in_structure : (letter : ℕ) → (letter ≡ letter_r ⊎ letter ≡ letter_a ⊎ letter ≡ letter_v ⊎ letter ≡ letter_i → 1 ≤ n)
      → InStructure (section_by letter) n
  unfolding section_by
  in_structure letter h = go (ℕ_discrete letter letter_r) (ℕ_discrete letter letter_a) (ℕ_discrete letter letter_v) (ℕ_discrete letter letter_i)
    where
      go : Dec (letter ≡ letter_r) → Dec (letter ≡ letter_a) → Dec (letter ≡ letter_v) → Dec (letter ≡ letter_i) → InStructure (section_by letter) n
      go (yes r) _ _ _ = in_any _ (h (inl r))
      go _ (yes a) _ _ = in_any _ (h (inr (inl a)))
      go _ _ (yes v) _ = in_any _ (h (inr (inr (inl v))))
      go _ _ _ (yes i) = in_any _ (h (inr (inr (inr i))))
      go (no r) (no a) (no v) (no i) =
          rw (ne_eqb _ _ r, ne_eqb _ _ a, ne_eqb _ _ v, ne_eqb _ _ i)
          (in_none (eqb letter letter_n) (eqb letter letter_m) (eqb letter letter_k))
