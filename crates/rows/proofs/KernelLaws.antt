-- Two keys of one image, over the pairs as they stand: no order of the kernel pairs is needed to tell whether some of them clash.
use Prim.Native.Nat.{ℕ, ◌+◌, ◌≤◌, ◌<◌}
use native.Mathlib.Omega.{arith}
use native.Mathlib.Numerals.{add-one}
use mathlib.Core.Bool.{Bool, true, false, not, ◌&&◌, ◌||◌}
use mathlib.Core.List.Memᴰ
use mathlib.Core.List.{List, [], ◌∷◌}
use mathlib.Core.Logic.{⊎_elim}
use mathlib.Core.Path.{◌≡◌, refl, sym, ◌∙◌, ap}
use lib.Dec.{eqb}
use lib.ListN.{length, get_or, set, take, drop, drop_of_length-le}
use lib.Seq.{drop-cons, get_or-take, take_all}
use borrow.Author.Tests.{eq-eqb, ne_eqb, eqb-true}
use Rattle.definition.specs.Base.{cons_if, keep, each, joined, any, ◌∈◌}
use Rattle.definition.specs.Group.{Variable}
use Rattle.definition.specs.Kinds.{Side, variable_in, type_in, kernel_variables, kernel_clashes}
use Rattle.definition.specs.Names.{numbers_of, variable_at, fiber}
use Rattle.definition.specs.Rule.{Structure, Pair}
use Rattle.definition.specs.Rows.{pairs_among, kernel_pairs}
use Rattle.laws.proofs.Lists.{bool_cases, never, and_left, and_right, and_true, or_cases, any_mem, any_true, get_d_each, mem_has, each_append, mem_at}
use Rattle.rule.specs.Elements.{Finds}
use Rattle.std.proofs.Common.{Some, None}
use Rattle.rule.specs.Pairs.{no_pair}
use Rattle.rows.specs.Kernel.{KeyVars, KeyTypes, Typed, TypesOf, SideAt, clash}
use Rattle.rule.specs.MapFields.{KeysIn, ImagesIn}
use Rattle.records.proofs.Parts.{any_append, any_each, take_more, store_more}

-- Whether a test holds of some pair and a later one.
unfoldable pub any_two : (Pair → Pair → Bool) → List Pair → Bool
any_two t [] = false
any_two t (p ∷ ps) = any (t p) ps || any_two t ps

-- Tests of the list functions' values.
any_keep : {A : Type 0} (t q : A → Bool) (xs : List A) → any t (keep q xs) ≡ any (λ (a : A). q a && t a) xs
unfolding any keep
any_keep t q [] = refl
any_keep t q (x ∷ xs) = go (q x) (any_keep t q xs)
  where
    go : (b : Bool) → any t (keep q xs) ≡ any (λ a. q a && t a) xs → any t (cons_if b x (keep q xs)) ≡ (b && t x || any (λ a. q a && t a) xs)
    go true e = rw e
    go false e = e

any_joined : {A B : Type 0} (t : B → Bool) (f : A → List B) (xs : List A) → any t (joined f xs) ≡ any (λ (a : A). any t (f a)) xs
unfolding any joined
any_joined t f [] = refl
any_joined t f (x ∷ xs) = any_append t (f x) (joined f xs) ∙ rw (any_joined t f xs)

any_never : {A : Type 0} (xs : List A) → any (λ (a : A). false) xs ≡ false
unfolding any
any_never [] = refl
any_never (x ∷ xs) = any_never xs

-- Of one fiber.
abbrev in_fiber : (Pair → Bool) → ℕ → Pair → Pair → Bool
in_fiber t e a b = eqb a.image e && (eqb b.image e && t (record { key = a.key; image = b.key }))

among : (t : Pair → Bool) (e : ℕ) (ps : List Pair) → any t (pairs_among (fiber ps e)) ≡ any_two (in_fiber t e) ps
unfolding any keep each fiber pairs_among any_two
among t e [] = refl
among t e (p ∷ ps) = go (eqb p.image e) (among t e ps)
  where
    later : any t (each (λ (l : ℕ). record { key = p.key; image = l }) (fiber ps e))
        ≡ any (λ (b : Pair). eqb b.image e && t (record { key = p.key; image = b.key })) ps
    later =
        any_each t (λ (l : ℕ). record { key = p.key; image = l }) (fiber ps e)
        ∙ any_each (λ (l : ℕ). t (record { key = p.key; image = l })) (λ (b : Pair). b.key) (keep (λ (b : Pair). eqb b.image e) ps)
        ∙ any_keep (λ (b : Pair). t (record { key = p.key; image = b.key })) (λ (b : Pair). eqb b.image e) ps

    go : (b : Bool) → any t (pairs_among (fiber ps e)) ≡ any_two (in_fiber t e) ps
        → any t (pairs_among (each (λ (q : Pair). q.key) (cons_if b p (keep (λ (q : Pair). eqb q.image e) ps))))
        ≡ (any (λ (c : Pair). b && (eqb c.image e && t (record { key = p.key; image = c.key }))) ps || any_two (in_fiber t e) ps)
    go true ih = any_append t (each (λ (l : ℕ). record { key = p.key; image = l }) (fiber ps e)) (pairs_among (fiber ps e)) ∙ rw (later, ih)
    go false ih = rw any_never ih

-- A pair and a later one for which a test holds: so it does for any other test that holds of them.
record Two (t : Pair → Pair → Bool) (ps : List Pair) : Type 0 where
  a : Pair
  b : Pair
  first : a ∈ ps
  holds : t a b ≡ true
  for : (u : Pair → Pair → Bool) → u a b ≡ true → any_two u ps ≡ true

two : (t : Pair → Pair → Bool) (ps : List Pair) → any_two t ps ≡ true → Two t ps
unfolding any_two
two t [] e = never e refl
two t (p ∷ ps) e = ⊎_elim
    (λ h. let r = any_true (t p) ps h in record {
      a = p;
      b = r.0;
      first = Memᴰ.head refl;
      holds = r.2;
      for = λ u q. rw (any_mem (u p) ps r.1 q);
    })
    (λ h. let r = two t ps h in record {
      a = r.a;
      b = r.b;
      first = Memᴰ.tail r.first;
      holds = r.holds;
      for = λ u q. or_right_true (any (u p) ps) (r.for u q);
    })
    (or_cases (any (t p) ps) (any_two t ps) e)
  where
    or_right_true : (x : Bool) {y : Bool} → y ≡ true → (x || y) ≡ true
    or_right_true true e = refl
    or_right_true false e = e

pub both_ways : {x y : Bool} → (x ≡ true → y ≡ true) → (y ≡ true → x ≡ true) → x ≡ y
both_ways {x} {y} f g = ⊎_elim (λ e. e ∙ sym (f e)) (λ e. ⊎_elim (λ h. never (g h) e) (λ h. e ∙ sym h) (bool_cases y)) (bool_cases x)

-- A test of the kernel pairs, over the pairs.
module _ (t : Pair → Bool) (target : Structure) (pairs : List Pair) (named : ImagesIn target pairs) where
  abbrev together : Pair → Pair → Bool
  together a b = eqb a.image b.image && t (record { key = a.key; image = b.key })

  fibers : any t (kernel_pairs pairs target) ≡ any (λ (e : ℕ). any_two (in_fiber t e) pairs) (numbers_of target)
  unfolding kernel_pairs
  fibers = any_joined t (λ (e : ℕ). pairs_among (fiber pairs e)) (numbers_of target) ∙ simp (among t)

  any_kernel : any t (kernel_pairs pairs target) ≡ any_two (λ (a b : Pair). eqb a.image b.image && t (record { key = a.key; image = b.key })) pairs
  any_kernel = fibers ∙ both_ways
      (λ h.
      let r = any_true _ (numbers_of target) h in
      let w = two (in_fiber t r.0) pairs r.2 in
      let x = eqb-true w.a.image r.0 (and_left _ _ w.holds) in
      let k = and_right (eqb w.a.image r.0) _ w.holds in
      let y = eqb-true w.b.image r.0 (and_left _ _ k) in
      w.for together (and_true _ _ (eq-eqb w.a.image w.b.image (x ∙ sym y)) (and_right (eqb w.b.image r.0) _ k)))
      (λ h.
      let w = two together pairs h in
      let x = eqb-true w.a.image w.b.image (and_left _ _ w.holds) in
      any_mem (λ (e : ℕ). any_two (in_fiber t e) pairs) (numbers_of target) (named.named w.a w.first)
      (w.for (in_fiber t w.a.image)
      (and_true _ _ (eq-eqb w.a.image w.a.image refl)
      (and_true _ _ (eq-eqb w.b.image w.a.image (sym x)) (and_right (eqb w.a.image w.b.image) _ w.holds)))))

-- What is left of the pairs at a place.
pub left_on : (pairs : List Pair) (p : ℕ) → p < length pairs → drop p pairs ≡ get_or pairs p no_pair ∷ drop (p + 1) pairs
left_on pairs p l = rw add-one (drop-cons pairs p no_pair l)

-- The loops over the keys: the tests from a place on.
module _ (type : Pair → ℕ) (pairs : List Pair) where
  unfoldable pub later_from : ℕ → ℕ → Bool
  later_from p q = any (clash type (get_or pairs p no_pair)) (drop q pairs)

  unfoldable pub keys_from : ℕ → Bool
  keys_from p = any_two (clash type) (drop p pairs)

  module _ (p q : ℕ) where
    pub later_other : q < length pairs → ((get_or pairs p no_pair).image ≡ (get_or pairs q no_pair).image → ⊥) → later_from p q ≡ later_from p (q + 1)
    unfolding later_from any
    later_other l d = rw (left_on pairs q l, ne_eqb _ _ d)

    pub later_same : q < length pairs → type (get_or pairs p no_pair) ≡ type (get_or pairs q no_pair) → later_from p q ≡ later_from p (q + 1)
    unfolding later_from any
    later_same l e = rw (left_on pairs q l, eq-eqb _ _ e) (go (eqb (get_or pairs p no_pair).image (get_or pairs q no_pair).image))
      where
        go : (b : Bool) {x : Bool} → (b && false || x) ≡ x
        go true = refl
        go false = refl

    pub later_clash : q < length pairs → (get_or pairs p no_pair).image ≡ (get_or pairs q no_pair).image
        → (type (get_or pairs p no_pair) ≡ type (get_or pairs q no_pair) → ⊥) → later_from p q ≡ true
    unfolding later_from any
    later_clash l e d = rw (left_on pairs q l, eq-eqb _ _ e, ne_eqb _ _ d)

    pub later_end : length pairs ≤ q → later_from p q ≡ false
    unfolding later_from any
    later_end l = rw (drop_of_length-le pairs l)

  pub keys_on : (p : ℕ) → p < length pairs → {r : Bool} → r ≡ later_from p (p + 1) → keys_from p ≡ (r || keys_from (p + 1))
  unfolding keys_from later_from any_two
  keys_on p l e = rw (left_on pairs p l, e)

  pub keys_end : (p : ℕ) → length pairs ≤ p → keys_from p ≡ false
  unfolding keys_from any_two
  keys_end p l = rw (drop_of_length-le pairs l)

  pub later_all : (p : ℕ) → any (clash type (get_or pairs p no_pair)) (drop (p + 1) pairs) ≡ later_from p (p + 1)
  unfolding later_from
  later_all p = refl

-- The type of a key's variable.
abbrev pub type_of : List Variable → Side → Pair → ℕ
type_of table source p = type_in table (variable_in source p.key)

module _ {pairs : List Pair} {vars types : List ℕ} where
  pub type_at : {type : Pair → ℕ} → KeyTypes pairs vars types type → (i : ℕ) → i < length pairs → {v : ℕ} → v ≡ get_or vars i 0
      → get_or types v 0 ≡ type (get_or pairs i no_pair)
  type_at f i l e = rw e (f.same i l)

  pub types_of : {table : List Variable} {source : Side} → KeyVars source pairs vars → TypesOf table types → Typed pairs vars (length types)
      → KeyTypes pairs vars types (type_of table source)
  types_of {table} {source} v t typed = record { same = same }
    where
      same : (i : ℕ) → i < length pairs → get_or types (get_or vars i 0) 0 ≡ type_of table source (get_or pairs i no_pair)
      same i l =
          let e : get_or vars i 0 ≡ variable_in source (get_or pairs i no_pair).key =
          sym (get_or-take (length pairs) vars i 0 l) ∙ rw v.same (get_d_each (λ (p : Pair). variable_in source p.key) pairs i no_pair 0 l) in
          t.same (get_or vars i 0) (typed.below i l) ∙ ap (type_in table) e

-- 25 over the pairs.
pub clash_is : (table : List Variable) (source target : Side) (pairs : List Pair) → ImagesIn target.structure pairs
    → kernel_clashes table source target pairs ≡ keys_from (type_of table source) pairs 0
unfolding kernel_clashes kernel_variables keys_from
clash_is table source target pairs named = any_each _ _ (kernel_pairs pairs target.structure)
    ∙ any_kernel (λ (p : Pair). not (eqb (type_in table (variable_in source p.key)) (type_in table (variable_in source p.image)))) target.structure pairs named

-- The variables of the first keys.
pub record KeysDone (source : Side) (pairs : List Pair) (vars : List ℕ) (p : ℕ) : Type 0 where
  pub same : take p vars ≡ each (λ (q : Pair). variable_in source q.key) (take p pairs)

pub keys_start : (source : Side) (pairs : List Pair) (vars : List ℕ) → KeysDone source pairs vars 0
unfolding each
keys_start source pairs vars = record { same = refl }

module _ {pairs : List Pair} {els : List ℕ} {p e : ℕ} (l : p < length pairs) (q : e ≡ (get_or pairs p no_pair).key) where
  -- A key is found.
  pub key_found : KeysIn els pairs → Finds None e els → ⊥
  key_found k f = never (mem_has _ els (k.named _ (mem_at pairs p no_pair l))) (rw q at f.is)

  pub keys_next : {source : Side} {vars row : List ℕ} {i : ℕ} → KeysDone source pairs vars p → SideAt els row source → p < length vars
      → Finds (Some i) e els → KeysDone source pairs (set vars p (get_or row i 0)) (p + 1)
  unfolding each variable_at
  keys_next {source} {vars} {row} {i} d t b f =
      let v : get_or row i 0 ≡ variable_in source (get_or pairs p no_pair).key = t.variables i f.is.1 ∙ rw (← q, t.numbers, ← f.is.0) in
      record { same = rw (store_more vars p (get_or row i 0) b, d.same, take_more pairs p no_pair l, each_append, v) }

pub keys_all : {source : Side} {pairs : List Pair} {vars : List ℕ} {p : ℕ} → KeysDone source pairs vars p → p ≡ length pairs → KeyVars source pairs vars
keys_all {source} {pairs} {vars} {p} d e = record { same = rw (← e) (d.same ∙ rw (take_all p pairs (omega arith))) }
