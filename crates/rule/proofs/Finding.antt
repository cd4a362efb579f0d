-- Elements: their numbers as a list, and a search among ascending numbers.
use Prim.Native.Nat.{ℕ, zero, suc, ◌+◌, ◌*◌, ◌<◌}
use native.Mathlib.Omega.{arith}
use native.Mathlib.Nat.{add-zero}
use mathlib.Core.Bool.{Bool, true, false, ◌||◌}
use mathlib.Core.List.{List, [], ◌∷◌}
use mathlib.Core.Path.{◌≡◌, refl, sym, ◌∙◌}
use lib.Dec.{eqb}
use lib.ListN.{length, get_or}
use borrow.Author.Tests.{eq-eqb, ne_eqb}
use Rattle.definition.specs.Base.{any, has, place_from}
use Rattle.definition.specs.Letters.{start}
use Rattle.definition.specs.Limits.{field_limit}
use Rattle.definition.specs.Records.{Field, number_at}
use Rattle.laws.proofs.Lists.{length_each, get_d_each}
use Rattle.records.specs.Places.{two_at}
use Rattle.records.specs.Held.{field_in}
use Rattle.std.proofs.Common.{Option, Some, None}
use Rattle.rule.specs.Search.{Places}
use Rattle.records.proofs.Numbers.{number_in}
use Rattle.records.proofs.Index.{length_held, held_get}
use Rattle.rule.specs.Layout.{elements_from}
use Rattle.rule.specs.Elements.{count_at, position_at, element_at, element_fields, element_numbers, Elements, Finds}

abbrev no_field : Field
no_field = record { letter = start; content = [] }

-- The numbers of a structure's elements.
pub numbers_length : (s index : List ℕ) (k : ℕ) → length (element_numbers s index k) ≡ count_at index k
unfolding element_numbers element_fields
numbers_length s index k =
    length_each (λ (f : Field). number_at 0 f.content) (element_fields s index k) ∙ length_held s index (elements_from + field_limit * k) (count_at index k)

pub numbers_get : {s index : List ℕ} {k : ℕ} → Elements s index k → (i : ℕ) → i < count_at index k
    → get_or (element_numbers s index k) i 0 ≡ element_at s index k i
unfolding element_numbers element_fields field_in
numbers_get {s} {index} {k} w i h =
    let from : ℕ = elements_from + field_limit * k in
    let l : i < length (element_fields s index k) = rw (length_held s index from (count_at index k)) h in
    let z = w.sized i h in
    get_d_each (λ (f : Field). number_at 0 f.content) (element_fields s index k) i no_field 0 l
    ∙ rw (held_get s index from (count_at index k) i no_field h)
    (number_in s (position_at index k i + 3) (two_at s (position_at index k i + 1)) (w.inside i h) 0 (omega arith) ∙ rw (add-zero (position_at index k i + 3)))

-- A number of a list: where it stands first.
has_at : (xs : List ℕ) (i e : ℕ) → i < length xs → get_or xs i 0 ≡ e → has e xs ≡ true
unfolding has any
has_at [] i e h g = absurd (omega arith)
has_at (x ∷ xs) zero e h g = rw (eq-eqb x e g)
has_at (x ∷ xs) (suc i) e h g = go (eqb x e) (has_at xs i e (omega arith) g)
  where
    go : (b : Bool) → has e xs ≡ true → (b || has e xs) ≡ true
    go true q = refl
    go false q = q

has_none : (xs : List ℕ) (e : ℕ) → ((i : ℕ) → i < length xs → get_or xs i 0 ≡ e → ⊥) → has e xs ≡ false
unfolding has any
has_none [] e h = refl
has_none (x ∷ xs) e h = rw (ne_eqb x e (λ q. h 0 (omega arith) q), has_none xs e (λ i l q. h (suc i) (omega arith) q))

place_at : (a : ℕ) (xs : List ℕ) (i e : ℕ) → i < length xs → get_or xs i 0 ≡ e → ((j : ℕ) → j < i → get_or xs j 0 ≡ e → ⊥) → place_from a e xs ≡ a + i
unfolding place_from
place_at a [] i e h g d = absurd (omega arith)
place_at a (x ∷ xs) zero e h g d = rw (eq-eqb x e g, add-zero a)
place_at a (x ∷ xs) (suc i) e h g d =
    rw (ne_eqb x e (λ q. d 0 (omega arith) q)) (place_at (a + 1) xs i e (omega arith) g (λ j l q. d (suc j) (omega arith) q) ∙ omega arith)

-- The place of a number among a structure's elements.
module _ {s index : List ℕ} {k : ℕ} (w : Elements s index k) (e : ℕ) where
  pub search_found : (i : ℕ) → i < count_at index k → element_at s index k i ≡ e → Finds (Some i) e (element_numbers s index k)
  search_found i h q =
      let l : i < length (element_numbers s index k) = rw (numbers_length s index k) h in
      let g : get_or (element_numbers s index k) i 0 ≡ e = numbers_get w i h ∙ q in
      record { is = (sym (place_at 0 (element_numbers s index k) i e l g before ∙ omega arith), l, has_at (element_numbers s index k) i e l g) }
    where
      before : (j : ℕ) → j < i → get_or (element_numbers s index k) j 0 ≡ e → ⊥
      before j a r = let b = w.ascend j i a h in let x = numbers_get w j (omega arith) in omega arith

  pub search_place : (r : Option ℕ) → Places r (count_at index k) e (element_at s index k) → Finds r e (element_numbers s index k)
  search_place (Some i) p = search_found i p.is.0 p.is.1
  search_place None p = record {
    is = has_none (element_numbers s index k) e (λ i l q.
        let h : i < count_at index k = rw (numbers_length s index k) at l in p.is i h (sym (numbers_get w i h) ∙ q));
  }

-- Elements stand in ascending order.
abbrev pub Ascending : List ℕ → Type 0
Ascending els = (i j : ℕ) → i < j → j < length els → get_or els i 0 < get_or els j 0

pub numbers_ascend : {s index : List ℕ} {k : ℕ} → Elements s index k → Ascending (element_numbers s index k)
numbers_ascend {s} {index} {k} w i j l h =
    let n = numbers_length s index k in
    let a = w.ascend i j l (omega arith) in
    rw (numbers_get w i (omega arith), numbers_get w j (omega arith)) a
