-- The variables that a structure's elements get: those taken over, and the next numbers. `fresh` counts how many before a place took
-- nothing over; the number there is the first new one plus that count, so that the new numbers differ and follow each other.
use Prim.Native.Nat.{ℕ, zero, suc, ◌+◌, ◌-◌, ◌≤◌, ◌<◌}
use native.Mathlib.Omega.{arith}
use native.Mathlib.Nat.{add-zero}
use mathlib.Core.Path.{◌≡◌, refl, ap, sym, ◌∙◌}
use mathlib.Core.Logic.{◌⊎◌, inl, inr, ⊎_elim}
use mathlib.Core.Bool.{Bool, true, false}
use mathlib.Core.Option.{Option, none, some}
use mathlib.Core.List.Memᴰ
use mathlib.Core.List.{List, [], ◌∷◌}
use lib.Dec.{eqb, ltb}
use lib.ListN.{length, get_or, take}
use borrow.Author.Tests.{eq-eqb, eqb-true, ltb-true}
use Rattle.definition.specs.Base.{pick, or_else, each, any, last_of, place_from, ◌∈◌}
use Rattle.definition.specs.Rule.{Structure, Element, Pair, keys_ascend}
use Rattle.definition.specs.Group.{Variable}
use Rattle.definition.specs.Names.{numbers_of, variable_at, fiber, carried_key, numbered, new_variable, new_variables}
use Rattle.definition.specs.Rows.{in_image}
use Rattle.laws.proofs.Lists.{
  never,
  and_left,
  and_right,
  bool_cases,
  mem_keep,
  keep_mem,
  mem_each,
  each_mem,
  length_each,
  get_d_each,
  any_true,
  trichotomy,
}
use Rattle.laws.specs.Numbering.{fresh}

-- An element that takes a variable over has it.
pub numbered_some : (n : ℕ) (cs : List (Option ℕ)) (i : ℕ) {v : ℕ} → i < length cs → get_or cs i none ≡ some v → get_or (numbered n cs) i 0 ≡ v
unfolding numbered
numbered_some n [] i h e = absurd (omega arith)
numbered_some n (some w ∷ cs) zero h e = cc
numbered_some n (none ∷ cs) zero h e = let z : ◌≡◌ {A = ℕ} 0 1 = cc in absurd (omega arith)
numbered_some n (some w ∷ cs) (suc i) h e = numbered_some n cs i (omega arith) e
numbered_some n (none ∷ cs) (suc i) h e = numbered_some (n + 1) cs i (omega arith) e

-- One that takes nothing over has the next number.
pub numbered_none : (n : ℕ) (cs : List (Option ℕ)) (i : ℕ) → i < length cs → get_or cs i none ≡ none → get_or (numbered n cs) i 0 ≡ n + fresh (take i cs)
unfolding numbered fresh
numbered_none n [] i h e = absurd (omega arith)
numbered_none n (some w ∷ cs) zero h e = let z : ◌≡◌ {A = ℕ} 0 1 = cc in absurd (omega arith)
numbered_none n (none ∷ cs) zero h e = omega arith
numbered_none n (some w ∷ cs) (suc i) h e = numbered_none n cs i (omega arith) e
numbered_none n (none ∷ cs) (suc i) h e = numbered_none (n + 1) cs i (omega arith) e ∙ omega arith

pub fresh_below : (cs : List (Option ℕ)) (i : ℕ) → i < length cs → get_or cs i none ≡ none → fresh (take i cs) < fresh cs
unfolding fresh
fresh_below [] i h e = absurd (omega arith)
fresh_below (some w ∷ cs) zero h e = let z : ◌≡◌ {A = ℕ} 0 1 = cc in absurd (omega arith)
fresh_below (none ∷ cs) zero h e = omega arith
fresh_below (some w ∷ cs) (suc i) h e = fresh_below cs i (omega arith) e
fresh_below (none ∷ cs) (suc i) h e = let r = fresh_below cs i (omega arith) e in omega arith

-- Two of them have different numbers.
pub fresh_differ : (cs : List (Option ℕ)) (i j : ℕ) → i < j → j < length cs → get_or cs i none ≡ none → fresh (take i cs) < fresh (take j cs)
unfolding fresh
fresh_differ [] i j h k e = absurd (omega arith)
fresh_differ (some w ∷ cs) i zero h k e = absurd (omega arith)
fresh_differ (none ∷ cs) i zero h k e = absurd (omega arith)
fresh_differ (some w ∷ cs) zero (suc j) h k e = let z : ◌≡◌ {A = ℕ} 0 1 = cc in absurd (omega arith)
fresh_differ (none ∷ cs) zero (suc j) h k e = omega arith
fresh_differ (some w ∷ cs) (suc i) (suc j) h k e = fresh_differ cs i j (omega arith) (omega arith) e
fresh_differ (none ∷ cs) (suc i) (suc j) h k e = let r = fresh_differ cs i j (omega arith) (omega arith) e in omega arith

pub fresh_few : (cs : List (Option ℕ)) → fresh cs ≤ length cs
unfolding fresh
fresh_few [] = omega arith
fresh_few (some w ∷ cs) = let r = fresh_few cs in omega arith
fresh_few (none ∷ cs) = let r = fresh_few cs in omega arith

-- The new variables: one for each that takes nothing over, of the number that it gets.
pub new_length : (st : Structure) (n : ℕ) (es : List Element) (cs : List (Option ℕ)) → length es ≡ length cs → length (new_variables st n es cs) ≡ fresh cs
unfolding new_variables fresh
new_length st n [] [] h = refl
new_length st n [] (c ∷ cs) h = absurd (omega arith)
new_length st n (e ∷ es) [] h = absurd (omega arith)
new_length st n (e ∷ es) (some w ∷ cs) h = new_length st n es cs (omega arith)
new_length st n (e ∷ es) (none ∷ cs) h = let r = new_length st (n + 1) es cs (omega arith) in omega arith

pub new_at : (st : Structure) (n : ℕ) (es : List Element) (cs : List (Option ℕ)) (k : ℕ) → k < length (new_variables st n es cs) → (d : Variable)
    → (e : Element) × (e ∈ es) × (get_or (new_variables st n es cs) k d ≡ new_variable st (n + k) e)
unfolding new_variables
new_at st n [] cs k h d = absurd (omega arith)
new_at st n (e ∷ es) [] k h d = absurd (omega arith)
new_at st n (e ∷ es) (some w ∷ cs) k h d = let r = new_at st n es cs k h d in (r.0, Memᴰ.tail r.1, r.2)
new_at st n (e ∷ es) (none ∷ cs) zero h d = (e, Memᴰ.head refl, rw add-zero)
new_at st n (e ∷ es) (none ∷ cs) (suc k) h d =
    let r = new_at st (n + 1) es cs k (omega arith) d in
    let q : n + 1 + k ≡ n + suc k = omega arith in (r.0, Memᴰ.tail r.1, rw (← q) r.2)

pub new_mem : (st : Structure) (n : ℕ) (es : List Element) (cs : List (Option ℕ)) {v : Variable} → v ∈ new_variables st n es cs
    → (k : ℕ) × (e : Element) × (e ∈ es) × (v ≡ new_variable st k e)
unfolding new_variables
new_mem st n [] cs m = absurd (Memᴰ.not-nil m)
new_mem st n (e ∷ es) [] m = absurd (Memᴰ.not-nil m)
new_mem st n (e ∷ es) (some w ∷ cs) m = let r = new_mem st n es cs m in (r.0, r.1, Memᴰ.tail r.2, r.3)
new_mem st n (e ∷ es) (none ∷ cs) m =
    ⊎_elim (λ q. (n, e, Memᴰ.head refl, q)) (λ t. let r = new_mem st (n + 1) es cs t in (r.0, r.1, Memᴰ.tail r.2, r.3)) (Memᴰ.cases_cons m)

-- The place of a member: there it stands.
pub place_from_lem : (i e : ℕ) (ns : List ℕ) → e ∈ ns
    → (i ≤ place_from i e ns) × (place_from i e ns < i + length ns) × (get_or ns (place_from i e ns - i) 0 ≡ e)
unfolding place_from
place_from_lem i e [] m = absurd (Memᴰ.not-nil m)
place_from_lem i e (n ∷ ns) m = go (eqb n e) refl (λ t. place_from_lem (i + 1) e ns t) (Memᴰ.cases_cons m)
  where
    go : (b : Bool) → eqb n e ≡ b
        → (e ∈ ns → (i + 1 ≤ place_from (i + 1) e ns) × (place_from (i + 1) e ns < i + 1 + length ns) × (get_or ns (place_from (i + 1) e ns - (i + 1)) 0 ≡ e))
        → (e ≡ n) ⊎ (e ∈ ns)
        → (i ≤ pick b i (place_from (i + 1) e ns)) × (pick b i (place_from (i + 1) e ns) < i + length (n ∷ ns))
        × (get_or (n ∷ ns) (pick b i (place_from (i + 1) e ns) - i) 0 ≡ e)
    go true q ih m = let z : i - i ≡ 0 = omega arith in (omega arith, omega arith, rw z (eqb-true n e q))
    go false q ih (inl p) = never (eq-eqb n e (sym p)) q
    go false q ih (inr t) =
        let r = ih t in
        let z : place_from (i + 1) e ns - i ≡ suc (place_from (i + 1) e ns - (i + 1)) = omega (arith, r.0) in
        (omega (arith, r.0), omega (arith, r.1), rw z r.2)

pub place_in : (e : ℕ) (ns : List ℕ) → e ∈ ns → (place_from 0 e ns < length ns) × (get_or ns (place_from 0 e ns) 0 ≡ e)
place_in e ns m = let r = place_from_lem 0 e ns m in
    let z : place_from 0 e ns - 0 ≡ place_from 0 e ns = omega arith in (omega (arith, r.1), rw z at r.2)

-- The last of some is one of them; where there are some there is a last.
pub last_mem : {A : Type 0} (xs : List A) {a : A} → last_of xs ≡ some a → a ∈ xs
unfolding last_of
last_mem [] e = let z : ◌≡◌ {A = ℕ} 0 1 = cc in absurd (omega arith)
last_mem (x ∷ xs) {a} e = go (last_of xs) refl (λ q. last_mem xs q) e
  where
    go : (o : Option _) → last_of xs ≡ o → (last_of xs ≡ some a → a ∈ xs) → or_else o (some x) ≡ some a → a ∈ (x ∷ xs)
    go none p ih e = let q : a ≡ x = cc in Memᴰ.head q
    go (some b) p ih e = Memᴰ.tail (ih (p ∙ e))

pub last_none : {A : Type 0} (xs : List A) → last_of xs ≡ none → {a : A} → a ∈ xs → ⊥
unfolding last_of
last_none [] e m = Memᴰ.not-nil m
last_none (x ∷ xs) e m = go (last_of xs) e
  where
    go : (o : Option _) → or_else o (some x) ≡ none → ⊥
    go none e = let z : ◌≡◌ {A = ℕ} 0 1 = cc in omega arith
    go (some b) e = let z : ◌≡◌ {A = ℕ} 0 1 = cc in omega arith

-- The carried key: a pair of the map; there is one just where the element is an image.
pub carried_pair : (pairs : List Pair) (e : ℕ) {k : ℕ} → carried_key pairs e ≡ some k → (p : Pair) × (p ∈ pairs) × (k ≡ p.key) × (p.image ≡ e)
unfolding carried_key fiber
carried_pair pairs e h =
    let r = mem_each (λ (p : Pair). p.key) _ (last_mem _ h) in
    let q = mem_keep (λ (p : Pair). eqb p.image e) pairs r.1 in (r.0, q.0, r.2, eqb-true _ _ q.1)

pub not_carried : (pairs : List Pair) (e : ℕ) → carried_key pairs e ≡ none → in_image pairs e ≡ false
unfolding carried_key fiber in_image
not_carried pairs e h = ⊎_elim
    (λ t.
    let r = any_true (λ (p : Pair). eqb p.image e) pairs t in
    absurd (last_none _ h (each_mem (λ (p : Pair). p.key) _ (keep_mem (λ (p : Pair). eqb p.image e) pairs r.1 r.2))))
    (λ f. f) (bool_cases (any (λ (p : Pair). eqb p.image e) pairs))

-- Keys that ascend: a key has one image.
ascend_above : (p : Pair) (ps : List Pair) → keys_ascend (p ∷ ps) ≡ true → {q : Pair} → q ∈ ps → p.key < q.key
unfolding keys_ascend
ascend_above p [] e m = absurd (Memᴰ.not-nil m)
ascend_above p (r ∷ ps) e {q} m =
    let b : p.key < r.key = ltb-true _ _ (and_left _ _ e) in
    let t : keys_ascend (r ∷ ps) ≡ true = and_right (ltb p.key r.key) _ e in
    ⊎_elim (λ z. rw z b) (λ z. let c : r.key < q.key = ascend_above r ps t z in omega arith) (Memᴰ.cases_cons m)

pub ascend_rest : (p : Pair) (ps : List Pair) → keys_ascend (p ∷ ps) ≡ true → keys_ascend ps ≡ true
unfolding keys_ascend
ascend_rest p [] e = refl
ascend_rest p (r ∷ ps) e = and_right (ltb p.key r.key) _ e

pub one_image : (ps : List Pair) → keys_ascend ps ≡ true → {p q : Pair} → p ∈ ps → q ∈ ps → p.key ≡ q.key → p.image ≡ q.image
one_image [] e m n k = absurd (Memᴰ.not-nil m)
one_image (r ∷ ps) e {p} {q} m n k = ⊎_elim
    (λ a. ⊎_elim
    (λ b. ap (λ (x : Pair). x.image) (a ∙ sym b))
    (λ b. let c : r.key < q.key = ascend_above r ps e b in let d : p.key ≡ r.key = rw a in absurd (omega arith))
    (Memᴰ.cases_cons n))
    (λ a. ⊎_elim (λ b. let c : r.key < p.key = ascend_above r ps e a in let d : q.key ≡ r.key = rw b in absurd (omega arith))
    (λ b. one_image ps (ascend_rest r ps e) a b k) (Memᴰ.cases_cons n))
    (Memᴰ.cases_cons m)

-- The variables of a structure's elements, by what each takes over.
module _ (st : Structure) (n : ℕ) (taken : ℕ → Option ℕ) where
  abbrev taking : List (Option ℕ)
  taking = each taken (numbers_of st)

  abbrev variables : List ℕ
  variables = numbered n taking

  abbrev place : ℕ → ℕ
  place e = place_from 0 e (numbers_of st)

  -- Where an element stands, and what stands there.
  at_place : (e : ℕ) → e ∈ numbers_of st → (place e < length taking) × (get_or taking (place e) none ≡ taken e)
  at_place e m = let r = place_in e (numbers_of st) m in
      (rw length_each r.0, get_d_each taken (numbers_of st) (place e) 0 none r.0 ∙ ap taken r.1)

  pub variable_taken : (e : ℕ) {v : ℕ} → e ∈ numbers_of st → taken e ≡ some v → variable_at st variables e ≡ v
  unfolding variable_at
  variable_taken e m h = let r = at_place e m in numbered_some n taking (place e) r.0 (r.1 ∙ h)

  pub variable_new : (e : ℕ) → e ∈ numbers_of st → taken e ≡ none → (n ≤ variable_at st variables e) × (variable_at st variables e < n + fresh taking)
  unfolding variable_at
  variable_new e m h = let r = at_place e m in
      let v = numbered_none n taking (place e) r.0 (r.1 ∙ h) in
      let f = fresh_below taking (place e) r.0 (r.1 ∙ h) in rw v (omega arith, omega arith)

  new_apart : (e d : ℕ) → e ∈ numbers_of st → d ∈ numbers_of st → taken e ≡ none → taken d ≡ none → place e < place d
      → variable_at st variables e < variable_at st variables d
  unfolding variable_at
  new_apart e d m k h g lt =
      let r = at_place e m in let s = at_place d k in
      let f = fresh_differ taking (place e) (place d) lt s.0 (r.1 ∙ h) in
      rw (numbered_none n taking (place e) r.0 (r.1 ∙ h), numbered_none n taking (place d) s.0 (s.1 ∙ g)) (omega arith)

  pub new_differ : (e d : ℕ) → e ∈ numbers_of st → d ∈ numbers_of st → taken e ≡ none → taken d ≡ none
      → variable_at st variables e ≡ variable_at st variables d → e ≡ d
  new_differ e d m k h g q = ⊎_elim
      (λ lt. let a = new_apart e d m k h g lt in absurd (omega arith))
      (⊎_elim (λ eq. sym (place_in e (numbers_of st) m).1 ∙ rw eq (place_in d (numbers_of st) k).1)
      (λ lt. let a = new_apart d e k m g h lt in absurd (omega arith)))
      (trichotomy (place e) (place d))
