-- The fields of a structure: the faults of their sections are those of the definition.
use Prim.Native.Nat.{ℕ, suc, ◌+◌, ◌-◌, ◌*◌, ◌≤◌, ◌<◌}
use native.Mathlib.Omega.{arith}
use native.Mathlib.Decide.{ℕ_discrete}
use mathlib.Core.Bool.{Bool, true}
use mathlib.Core.List.{List, [], ◌∷◌}
use mathlib.Core.Option.{Option, none, some}
use mathlib.Core.Path.{◌≡◌, refl, sym, ◌∙◌, ap}
use lib.Dec.{leb}
use lib.ListN.{length, get_or}
use borrow.Author.Tests.{le-leb}
use Rattle.definition.specs.Base.{keep, each}
use Rattle.definition.specs.Letters.{letter_e, letter_r, letter_a, letter_v, letter_i, start}
use Rattle.definition.specs.Limits.{structure_limit, field_limit}
use Rattle.definition.specs.Records.{Field, number_at, with_letter, fault_from, fault_among}
use Rattle.definition.specs.Signature.{Signature, symbol_count, arity}
use Rattle.definition.specs.Rule.{named_elements, element_fault, body_fault, elements_at}
use Rattle.records.specs.Places.{two_at, stretch, Run}
use Rattle.records.specs.Held.{field_in}
use Rattle.records.proofs.Numbers.{length_stretch}
use Rattle.records.proofs.Runs.{run_le, run_end}
use Rattle.records.proofs.Index.{length_held, held_get, held_same}
use Rattle.rule.specs.Layout.{letter_at, place_n, place_e, place_r, place_a, place_v, place_i, letters}
use Rattle.rule.specs.Layout.{elements_from, section_from, section_to, number_of, within}
use Rattle.rule.specs.Elements.{count_at, position_at, element_fields, element_numbers, numbers_in, named_by, Elements, Known}
use Rattle.rule.specs.Faults.{row_check, name_check, check_of, rest_fault}
use Rattle.rule.specs.declared.faults.SectionKind.{SectionKind}
use Rattle.rule.specs.declared.faults.SectionKind.TheVariants.{Row, Name}
use Rattle.rule.specs.declared.name.NameKind.TheVariants.{Variable, Identifier}
use Rattle.rule.specs.declared.row.RowKind.TheVariants.{Predicate, Function}
use Rattle.rule.specs.Answers.{Bodied, Kept}
use Rattle.rule.proofs.Drawn.{last_named_lem}
use Rattle.rule.proofs.Checking.{SectionTold, told_among}

-- Entries that were kept tell the same of the elements of earlier structures.
module _ {index₀ index : List ℕ} {k j : ℕ} (kept : Kept index₀ index k) (h : j < k) where
  kept_position : (i : ℕ) → i < field_limit → position_at index j i ≡ position_at index₀ j i
  kept_position i l = kept.before (elements_from + field_limit * j + i) (omega arith)

  pub kept_elements : {s : List ℕ} → Elements s index₀ j → Elements s index j
  kept_elements {s} w =
      let c = kept.counts j h in
      record {
        few = rw c w.few;
        sized = λ i l. rw (kept_position i (omega (arith, w.few))) (w.sized i (rw c at l));
        inside = λ i l. rw (kept_position i (omega (arith, w.few))) (w.inside i (rw c at l));
        ascend = λ i m l n. rw (kept_position i (omega (arith, w.few)), kept_position m (omega (arith, w.few))) (w.ascend i m l (rw c at n));
      }

  pub kept_fields : {s : List ℕ} → Elements s index₀ j → element_fields s index j ≡ element_fields s index₀ j
  unfolding element_fields
  kept_fields {s} w =
      let c = kept.counts j h in
      rw c (held_same s index index₀ (elements_from + field_limit * j) (count_at index₀ j) (λ i a b. kept.before i (omega (arith, w.few))))

pub kept_trans : {index₀ index₁ index₂ : List ℕ} {k : ℕ} → Kept index₀ index₁ 0 → Kept index₁ index₂ k → Kept index₀ index₂ 0
kept_trans a b = record { before = λ i h. b.before i (omega arith) ∙ a.before i h; counts = λ j h. absurd (omega arith) }

-- The elements of one structure more are known.
pub known_more : {s index₀ index : List ℕ} {k : ℕ} → Kept index₀ index k → Known s index₀ k → k < structure_limit → Elements s index k → Known s index (k + 1)
known_more {s} {index₀} {index} {k} kept w h el = record { few = omega arith; elements = λ j l. go j l (ℕ_discrete j k) }
  where
    go : (j : ℕ) → j < k + 1 → Dec (j ≡ k) → Elements s index j
    go j l (yes q) = rw q el
    go j l (no q) = kept_elements kept (omega arith) (w.elements j (omega arith))

-- Elements that are known can be named, all of them.
keep_all : {A : Type 0} (p : A → Bool) (xs : List A) (d : A) → ((i : ℕ) → i < length xs → p (get_or xs i d) ≡ true) → keep p xs ≡ xs
unfolding keep
keep_all p [] d h = refl
keep_all p (x ∷ xs) d h = rw (h 0 (omega arith), keep_all p xs d (λ i l. h (suc i) (omega arith)))

abbrev no_field : Field
no_field = record { letter = start; content = [] }

field_long : {s index : List ℕ} {k : ℕ} → Elements s index k → (i : ℕ) → i < length (element_fields s index k)
    → leb 2 (length (get_or (element_fields s index k) i no_field).content) ≡ true
unfolding element_fields field_in
field_long {s} {index} {k} w i l =
    let h : i < count_at index k = rw (length_held s index (elements_from + field_limit * k) (count_at index k)) at l in
    let z = w.sized i h in
    let n : length (stretch s (position_at index k i + 3) (two_at s (position_at index k i + 1))) ≡ two_at s (position_at index k i + 1)
    = length_stretch s (position_at index k i + 3) (two_at s (position_at index k i + 1)) (w.inside i h) in
    rw (held_get s index (elements_from + field_limit * k) (count_at index k) i no_field h, n) (le-leb 2 (two_at s (position_at index k i + 1)) (omega arith))

pub named_is : {s index : List ℕ} {k : ℕ} (body : List Field) → Elements s index k → element_fields s index k ≡ with_letter letter_e body
    → element_numbers s index k ≡ named_elements body
unfolding element_numbers named_elements
named_is {s} {index} {k} body w e =
    rw (← e) (ap (each (λ (f : Field). number_at 0 f.content))
    (sym (keep_all (λ (f : Field). leb 2 (length f.content)) (element_fields s index k) no_field (field_long w))))

-- The sections of a structure, by numbers that the code computes.
module _ {s index : List ℕ} {k : ℕ} {body : List Field} (b : Bodied s index k body) where
  run_of : (q letter : ℕ) → place_e ≤ q → q ≤ place_i → letter_at q ≡ letter
      → Run s (get_or index (letters * k + (q - place_n)) 0) (get_or index (letters * k + (q - place_n) + 1) 0) (with_letter letter body)
  unfolding section_from section_to
  run_of q letter lo hi e = let z : letters * k + (q - place_n) ≡ number_of (within k q) = omega arith in rw (z, ← e) (b.run q lo hi)

  pub run_e : {from to : ℕ} → from ≡ get_or index (letters * k + (place_e - place_n)) 0 → to ≡ get_or index (letters * k + (place_e - place_n) + 1) 0
      → Run s from to (with_letter letter_e body)
  unfolding letter_at
  run_e p q = rw (p, q) (run_of place_e letter_e (omega arith) (omega arith) refl)

  run_r : Run s (get_or index (letters * k + (place_r - place_n)) 0) (get_or index (letters * k + (place_r - place_n) + 1) 0) (with_letter letter_r body)
  unfolding letter_at
  run_r = run_of place_r letter_r (omega arith) (omega arith) refl

  run_a : Run s (get_or index (letters * k + (place_a - place_n)) 0) (get_or index (letters * k + (place_a - place_n) + 1) 0) (with_letter letter_a body)
  unfolding letter_at
  run_a = run_of place_a letter_a (omega arith) (omega arith) refl

  run_v : Run s (get_or index (letters * k + (place_v - place_n)) 0) (get_or index (letters * k + (place_v - place_n) + 1) 0) (with_letter letter_v body)
  unfolding letter_at
  run_v = run_of place_v letter_v (omega arith) (omega arith) refl

  run_i : Run s (get_or index (letters * k + (place_i - place_n)) 0) (get_or index (letters * k + (place_i - place_n) + 1) 0) (with_letter letter_i body)
  unfolding letter_at
  run_i = run_of place_i letter_i (omega arith) (omega arith) refl

  -- Where nothing stands behind the R fields, there are no A, V or I fields.
  none_behind : get_or index (letters * k + (place_a - place_n)) 0 ≡ get_or index (letters * k + (place_i - place_n + 1)) 0
      → (with_letter letter_a body ≡ []) × (with_letter letter_v body ≡ []) × (with_letter letter_i body ≡ [])
  none_behind e =
      let a = run_a in let v = run_v in let i = run_i in
      let av : letters * k + (place_a - place_n) + 1 ≡ letters * k + (place_v - place_n) = omega arith in
      let vi : letters * k + (place_v - place_n) + 1 ≡ letters * k + (place_i - place_n) = omega arith in
      let ie : letters * k + (place_i - place_n) + 1 ≡ letters * k + (place_i - place_n + 1) = omega arith in
      let x = run_le (rw av at a) in let y = run_le (rw vi at v) in let z = run_le (rw ie at i) in
      (run_end a (rw av (omega arith)), run_end v (rw vi (omega arith)), run_end i (rw ie (omega arith)))

pub bodied_kept : {s index₀ index : List ℕ} {k m : ℕ} {body : List Field} → k < structure_limit → Kept index₀ index m → Bodied s index₀ k body
    → Bodied s index k body
unfolding section_from section_to
bodied_kept {k = k} h kept b = record {
  run = λ q lo hi. rw (kept.before (number_of (within k q)) (omega arith), kept.before (number_of (within k q) + 1) (omega arith)) (b.run q lo hi);
}

-- R, A, V and I, in that order, from what the checks of their sections told.
module _ (sig : Signature) {s index : List ℕ} {k : ℕ} {body : List Field} (b : Bodied s index k body)
    (e : element_numbers s index k ≡ named_elements body) where
  abbrev Told : Option ℕ → SectionKind → ℕ → Type 0
  Told f kind q = SectionTold f (check_of sig (numbers_in s index (k + 1)) kind) s index (letters * k + (q - place_n))

  last_is : elements_at (numbers_in s index (k + 1)) (length (numbers_in s index (k + 1)) - 1) ≡ named_elements body
  last_is = let z : k + 1 - 1 ≡ k = omega arith in last_named_lem s index (k + 1) (omega arith) ∙ rw z e

  module _ {f : Option ℕ} where
    of_r : Told f (Row Predicate) place_r → f ≡ fault_among letter_r (row_check sig Predicate (named_elements body)) body
    of_r h = rw (← last_is) (told_among h _ body (run_r b))

    of_a : Told f (Row Function) place_a → f ≡ fault_among letter_a (row_check sig Function (named_elements body)) body
    of_a h = rw (← last_is) (told_among h _ body (run_a b))

    of_v : Told f (Name Variable) place_v → f ≡ fault_among letter_v (name_check Variable (named_elements body)) body
    of_v h = rw (← last_is) (told_among h _ body (run_v b))

    of_i : Told f (Name Identifier) place_i → f ≡ fault_among letter_i (name_check Identifier (named_elements body)) body
    of_i h = rw (← last_is) (told_among h _ body (run_i b))

  abbrev Answer : Option ℕ → Type 0
  Answer f = f ≡ rest_fault sig (named_elements body) body

  pub rest_r : {n : ℕ} → Told (some n) (Row Predicate) place_r → Answer (some n)
  unfolding rest_fault
  rest_r h = sym (rw (← (of_r h)))

  module _ (hr : Told none (Row Predicate) place_r) where
    pub rest_none : get_or index (letters * k + (place_a - place_n)) 0 ≡ get_or index (letters * k + (place_i - place_n + 1)) 0 → Answer none
    unfolding rest_fault fault_among fault_from
    rest_none same = let n = none_behind b same in sym (rw (← (of_r hr), n.0, n.1, n.2))

    pub rest_a : {n : ℕ} → Told (some n) (Row Function) place_a → Answer (some n)
    unfolding rest_fault
    rest_a h = sym (rw (← (of_r hr), ← (of_a h)))

    module _ (ha : Told none (Row Function) place_a) where
      pub rest_v : {n : ℕ} → Told (some n) (Name Variable) place_v → Answer (some n)
      unfolding rest_fault
      rest_v h = sym (rw (← (of_r hr), ← (of_a ha), ← (of_v h)))

      pub rest_i : Told none (Name Variable) place_v → {f : Option ℕ} → Told f (Name Identifier) place_i → Answer f
      unfolding rest_fault
      rest_i hv h = sym (rw (← (of_r hr), ← (of_a ha), ← (of_v hv), ← (of_i h)))

-- E before them.
module _ (sig : Signature) (body : List Field) where
  abbrev OfE : Option ℕ → Type 0
  OfE f = f ≡ fault_from (element_fault sig (named_by (with_letter letter_e body))) 0 none (with_letter letter_e body)

  pub body_e : {n : ℕ} → OfE (some n) → some n ≡ body_fault sig (named_elements body) body
  unfolding body_fault fault_among named_elements named_by
  body_e h = sym (rw (← h))

  pub body_rest : {f : Option ℕ} → OfE none → f ≡ rest_fault sig (named_elements body) body → f ≡ body_fault sig (named_elements body) body
  unfolding body_fault rest_fault fault_among named_elements named_by symbol_count arity
  body_rest h k = k ∙ sym (rw (← h))

pub known_here : {s index : List ℕ} {k n : ℕ} → Known s index k → n ≤ k → k ≤ n → Known s index n
known_here w a b = record { few = omega (arith, w.few); elements = λ j h. w.elements j (omega arith) }
