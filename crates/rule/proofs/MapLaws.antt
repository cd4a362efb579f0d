-- The pairs of a map by their places, and the search among keys that ascend.
use Prim.Native.Nat.{ℕ, zero, suc, ◌≤◌, ◌<◌}
use native.Mathlib.Omega.{arith}
use mathlib.Core.Bool.{true}
use mathlib.Core.List.{List, [], ◌∷◌}
use mathlib.Core.Option.{none, some}
use mathlib.Core.Logic.{⊎_elim}
use mathlib.Core.Path.{◌≡◌, refl}
use lib.ListN.{length, get_or}
use borrow.Author.Tests.{eq-eqb, ne_eqb, ltb-true}
use Rattle.definition.specs.Base.{first_of, place_from, ◌∈◌}
use Rattle.definition.specs.Rule.{Pair, keys_ascend}
use Rattle.definition.specs.Rows.{image_of}
use Rattle.laws.proofs.Lists.{and_left, trichotomy, mem_at}
use Rattle.laws.proofs.Numbering.{place_in, ascend_rest}
use Rattle.rule.specs.Pairs.{no_pair}

-- Keys that ascend, by their places.
abbrev key_of : List Pair → ℕ → ℕ
key_of ps i = (get_or ps i no_pair).key

ascend_next : (p q : Pair) (ps : List Pair) → keys_ascend (p ∷ q ∷ ps) ≡ true → p.key < q.key
unfolding keys_ascend
ascend_next p q ps h = ltb-true _ _ (and_left _ _ h)

ascend_first : (p : Pair) (ps : List Pair) → keys_ascend (p ∷ ps) ≡ true → (j : ℕ) → j < length ps → p.key < key_of ps j
ascend_first p [] h j l = absurd (omega arith)
ascend_first p (q ∷ ps) h zero l = ascend_next p q ps h
ascend_first p (q ∷ ps) h (suc j) l =
    let a : p.key < q.key = ascend_next p q ps h in
    let b : q.key < key_of ps j = ascend_first q ps (ascend_rest p (q ∷ ps) h) j (omega arith) in omega arith

pub ascend_at : (ps : List Pair) → keys_ascend ps ≡ true → (i j : ℕ) → i < j → j < length ps → key_of ps i < key_of ps j
ascend_at [] h i j a b = absurd (omega arith)
ascend_at (p ∷ ps) h zero zero a b = absurd (omega arith)
ascend_at (p ∷ ps) h (suc i) zero a b = absurd (omega arith)
ascend_at (p ∷ ps) h zero (suc j) a b = ascend_first p ps h j (omega arith)
ascend_at (p ∷ ps) h (suc i) (suc j) a b = ascend_at ps (ascend_rest p ps h) i j (omega arith) (omega arith)

-- The image of a key, and of a number that is none.
pub image_none : (ps : List Pair) (e : ℕ) → ((i : ℕ) → i < length ps → key_of ps i ≡ e → ⊥) → image_of ps e ≡ none
unfolding image_of first_of
image_none [] e h = refl
image_none (p ∷ ps) e h = rw (ne_eqb p.key e (h 0 (omega arith))) (image_none ps e (λ i l. h (suc i) (omega arith)))

pub image_some : (ps : List Pair) → keys_ascend ps ≡ true → (e i : ℕ) → i < length ps → key_of ps i ≡ e → image_of ps e ≡ some (get_or ps i no_pair).image
unfolding image_of first_of
image_some [] h e i l q = absurd (omega arith)
image_some (p ∷ ps) h e zero l q = rw (eq-eqb p.key e q)
image_some (p ∷ ps) h e (suc i) l q =
    let a : p.key < key_of ps i = ascend_first p ps h i (omega arith) in
    rw (ne_eqb p.key e (λ z. omega arith)) (image_some ps (ascend_rest p ps h) e i (omega arith) q)

-- Keys that ascend and stand in an ascending list are at most as many as it has.
pub few_keys : (ps : List Pair) (els : List ℕ) → keys_ascend ps ≡ true → ((i j : ℕ) → i < j → j < length els → get_or els i 0 < get_or els j 0)
    → ((p : Pair) → p ∈ ps → p.key ∈ els) → length ps ≤ length els
few_keys ps els h up named = go (length ps) (omega arith)
  where
    place : (i : ℕ) → ℕ
    place i = place_from 0 (key_of ps i) els

    here : (i : ℕ) → i < length ps → (place i < length els) × (get_or els (place i) 0 ≡ key_of ps i)
    here i l = place_in (key_of ps i) els (named (get_or ps i no_pair) (mem_at ps i no_pair l))

    rise : (i j : ℕ) → i < j → j < length ps → place i < place j
    rise i j l k = ⊎_elim (λ (z : place i < place j). z)
        (⊎_elim (λ (z : place i ≡ place j). let a = ascend_at ps h i j l k in let b = (here i (omega arith)).1 in let c = (here j k).1 in
        let d : get_or els (place i) 0 ≡ get_or els (place j) 0 = rw z in absurd (omega arith))
        (λ (z : place j < place i). let a = ascend_at ps h i j l k in let b = (here i (omega arith)).1 in let c = (here j k).1 in
        let d = up (place j) (place i) z (here i (omega arith)).0 in absurd (omega arith)))
        (trichotomy (place i) (place j))

    above : (i : ℕ) → i < length ps → i ≤ place i
    above zero l = omega arith
    above (suc i) l = let a = above i (omega arith) in let b = rise i (suc i) (omega arith) l in omega arith

    go : (n : ℕ) → n ≤ length ps → n ≤ length els
    go zero l = omega arith
    go (suc n) l = let a = above n (omega arith) in let b = (here n (omega arith)).0 in omega arith
