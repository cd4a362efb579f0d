-- Laws of the definition's list functions and tests, over any element type: what a test's answer tells, and which members the lists have
-- that `keep`, `each` and `joined` give.
use Prim.Native.Nat.{ℕ, zero, suc, ◌<◌}
use native.Mathlib.Omega.{arith}
use native.Mathlib.Decide.{dec_lt}
use mathlib.Core.Path.{◌≡◌, refl, ap, sym, ◌∙◌}
use mathlib.Core.Logic.{◌⊎◌, inl, inr, ⊎_elim}
use mathlib.Core.Bool.{Bool, true, false, not, ◌&&◌, ◌||◌}
use mathlib.Core.Option.{Option, none, some}
use mathlib.Core.List.Memᴰ
use mathlib.Core.List.{List, [], ◌∷◌, ◌++◌, append_assoc}
use lib.Dec.{eqb}
use lib.ListN.{length, get_or}
use borrow.Author.Tests.{eq-eqb, eqb-true}
use Rattle.definition.specs.Base.{pick, or_else, cons_if, keep, each, joined, any, all, has, lowest, first_of, ◌∈◌}

-- Tests.
pub and_left : (a b : Bool) → (a && b) ≡ true → a ≡ true
and_left true b e = refl
and_left false b e = e

pub and_right : (a b : Bool) → (a && b) ≡ true → b ≡ true
and_right true b e = e
and_right false b e = let z : ◌≡◌ {A = ℕ} 0 1 = cc in absurd (omega arith)

pub and_true : (a b : Bool) → a ≡ true → b ≡ true → (a && b) ≡ true
and_true a b e f = rw (e, f)

pub or_left : (a b : Bool) → (a || b) ≡ false → a ≡ false
or_left true b e = e
or_left false b e = refl

pub or_right : (a b : Bool) → (a || b) ≡ false → b ≡ false
or_right true b e = let z : ◌≡◌ {A = ℕ} 0 1 = cc in absurd (omega arith)
or_right false b e = e

pub or_cases : (a b : Bool) → (a || b) ≡ true → (a ≡ true) ⊎ (b ≡ true)
or_cases true b e = inl refl
or_cases false b e = inr e

pub not_and_right : (a b : Bool) → b ≡ false → not (a && b) ≡ true
not_and_right true b e = rw e
not_and_right false b e = refl

pub never : {A : Type 0} {b : Bool} → b ≡ true → b ≡ false → A
never p q = let z : ◌≡◌ {A = ℕ} 0 1 = cc in absurd (omega arith)

pub bool_cases : (b : Bool) → (b ≡ true) ⊎ (b ≡ false)
bool_cases true = inl refl
bool_cases false = inr refl

module _ {A : Type 0} where
  pub or_else_none : (a b : Option A) → or_else a b ≡ none → (a ≡ none) × (b ≡ none)
  or_else_none none b e = (refl, e)
  or_else_none (some x) b e = let z : ◌≡◌ {A = ℕ} 0 1 = cc in absurd (omega arith)

-- Members of what the list functions give.
module _ {A : Type 0} where
  pub mem_keep : (p : A → Bool) (xs : List A) {a : A} → a ∈ keep p xs → (a ∈ xs) × (p a ≡ true)
  unfolding keep
  mem_keep p [] m = absurd (Memᴰ.not-nil m)
  mem_keep p (x ∷ xs) {a} m = go (p x) refl (λ t. mem_keep p xs t) m
    where
      go : (b : Bool) → p x ≡ b → (a ∈ keep p xs → (a ∈ xs) × (p a ≡ true)) → a ∈ cons_if b x (keep p xs) → (a ∈ (x ∷ xs)) × (p a ≡ true)
      go true e ih m = ⊎_elim (λ q. (Memᴰ.head q, rw q e)) (λ t. let r = ih t in (Memᴰ.tail r.0, r.1)) (Memᴰ.cases_cons m)
      go false e ih m = let r = ih m in (Memᴰ.tail r.0, r.1)

  pub keep_mem : (p : A → Bool) (xs : List A) {a : A} → a ∈ xs → p a ≡ true → a ∈ keep p xs
  unfolding keep
  keep_mem p [] m e = absurd (Memᴰ.not-nil m)
  keep_mem p (x ∷ xs) {a} m e = go (p x) refl (λ t. keep_mem p xs t e) (Memᴰ.cases_cons m)
    where
      go : (b : Bool) → p x ≡ b → (a ∈ xs → a ∈ keep p xs) → (a ≡ x) ⊎ (a ∈ xs) → a ∈ cons_if b x (keep p xs)
      go true f ih (inl q) = Memᴰ.head q
      go true f ih (inr t) = Memᴰ.tail (ih t)
      go false f ih (inl q) = never (rw q at e) f
      go false f ih (inr t) = ih t

module _ {A B : Type 0} where
  pub mem_each : (f : A → B) (xs : List A) {b : B} → b ∈ each f xs → (a : A) × (a ∈ xs) × (b ≡ f a)
  unfolding each
  mem_each f [] m = absurd (Memᴰ.not-nil m)
  mem_each f (x ∷ xs) m =
      ⊎_elim (λ q. (x, Memᴰ.head refl, q)) (λ t. let r = mem_each f xs t in (r.0, Memᴰ.tail r.1, r.2)) (Memᴰ.cases_cons m)

  pub each_mem : (f : A → B) (xs : List A) {a : A} → a ∈ xs → f a ∈ each f xs
  unfolding each
  each_mem f [] m = absurd (Memᴰ.not-nil m)
  each_mem f (x ∷ xs) m = ⊎_elim (λ q. Memᴰ.head (ap f q)) (λ t. Memᴰ.tail (each_mem f xs t)) (Memᴰ.cases_cons m)

  pub length_each : (f : A → B) (xs : List A) → length (each f xs) ≡ length xs
  unfolding each
  length_each f [] = refl
  length_each f (x ∷ xs) = rw (length_each f xs)

  pub each_append : (f : A → B) (xs ys : List A) → each f (xs ++ ys) ≡ each f xs ++ each f ys
  unfolding each
  each_append f [] ys = refl
  each_append f (x ∷ xs) ys = rw (each_append f xs ys)

  pub get_d_each : (f : A → B) (xs : List A) (i : ℕ) (d : A) (e : B) → i < length xs → get_or (each f xs) i e ≡ f (get_or xs i d)
  unfolding each
  get_d_each f [] i d e h = absurd (omega arith)
  get_d_each f (x ∷ xs) zero d e h = refl
  get_d_each f (x ∷ xs) (suc i) d e h = get_d_each f xs i d e (omega arith)

  pub mem_joined : (f : A → List B) (xs : List A) {b : B} → b ∈ joined f xs → (a : A) × (a ∈ xs) × (b ∈ f a)
  unfolding joined
  mem_joined f [] m = absurd (Memᴰ.not-nil m)
  mem_joined f (x ∷ xs) m =
      ⊎_elim (λ q. (x, Memᴰ.head refl, q)) (λ t. let r = mem_joined f xs t in (r.0, Memᴰ.tail r.1, r.2)) (Memᴰ.append_cases (f x) m)

  pub joined_mem : (f : A → List B) (xs : List A) {a : A} {b : B} → a ∈ xs → b ∈ f a → b ∈ joined f xs
  unfolding joined
  joined_mem f [] m n = absurd (Memᴰ.not-nil m)
  joined_mem f (x ∷ xs) {a} {b} m n =
      ⊎_elim (λ q. Memᴰ.append_left (joined f xs) (rw q at n)) (λ t. Memᴰ.append_right (f x) (joined_mem f xs t n)) (Memᴰ.cases_cons m)

  pub joined_same : (f g : A → List B) → ((a : A) → f a ≡ g a) → (xs : List A) → joined f xs ≡ joined g xs
  unfolding joined
  joined_same f g h [] = refl
  joined_same f g h (x ∷ xs) = rw (h x, joined_same f g h xs)

  pub joined_append : (f : A → List B) (xs ys : List A) → joined f (xs ++ ys) ≡ joined f xs ++ joined f ys
  unfolding joined
  joined_append f [] ys = refl
  joined_append f (x ∷ xs) ys = rw (joined_append f xs ys, append_assoc)

-- Tests over lists.
module _ {A : Type 0} (p : A → Bool) where
  pub any_mem : (xs : List A) {a : A} → a ∈ xs → p a ≡ true → any p xs ≡ true
  unfolding any
  any_mem [] m e = absurd (Memᴰ.not-nil m)
  any_mem (x ∷ xs) {a} m e = ⊎_elim (λ q. rw (rw q at e)) (λ t. go (p x) (any_mem xs t e)) (Memᴰ.cases_cons m)
    where
      go : (b : Bool) → any p xs ≡ true → (b || any p xs) ≡ true
      go true f = refl
      go false f = f

  pub any_true : (xs : List A) → any p xs ≡ true → (a : A) × (a ∈ xs) × (p a ≡ true)
  unfolding any
  any_true [] e = let z : ◌≡◌ {A = ℕ} 0 1 = cc in absurd (omega arith)
  any_true (x ∷ xs) e =
      ⊎_elim (λ q. (x, Memᴰ.head refl, q)) (λ t. let r = any_true xs t in (r.0, Memᴰ.tail r.1, r.2)) (or_cases (p x) (any p xs) e)

  pub any_false : (xs : List A) → any p xs ≡ false → {a : A} → a ∈ xs → p a ≡ false
  any_false xs e {a} m = ⊎_elim (λ q. never (any_mem xs m q) e) (λ q. q) (bool_cases (p a))

  pub none_any : (xs : List A) → ((a : A) → a ∈ xs → p a ≡ false) → any p xs ≡ false
  none_any xs h = ⊎_elim (λ q. let r = any_true xs q in never r.2 (h _ r.1)) (λ q. q) (bool_cases (any p xs))

  pub all_mem : (xs : List A) → all p xs ≡ true → {a : A} → a ∈ xs → p a ≡ true
  unfolding all
  all_mem [] e m = absurd (Memᴰ.not-nil m)
  all_mem (x ∷ xs) e m = ⊎_elim (λ q. ap p q ∙ and_left (p x) (all p xs) e) (λ t. all_mem xs (and_right (p x) (all p xs) e) t) (Memᴰ.cases_cons m)

  pub mem_all : (xs : List A) → ((a : A) → a ∈ xs → p a ≡ true) → all p xs ≡ true
  unfolding all
  mem_all [] h = refl
  mem_all (x ∷ xs) h = and_true _ _ (h _ (Memᴰ.head refl)) (mem_all xs (λ a m. h a (Memᴰ.tail m)))

pub has_mem : (n : ℕ) (xs : List ℕ) → has n xs ≡ true → n ∈ xs
unfolding has
has_mem n xs e = let r = any_true (λ (m : ℕ). eqb m n) xs e in Memᴰ.cast (sym (eqb-true _ _ r.2)) r.1

pub mem_has : (n : ℕ) (xs : List ℕ) → n ∈ xs → has n xs ≡ true
unfolding has
mem_has n xs m = any_mem (λ (m : ℕ). eqb m n) xs m (eq-eqb n n refl)

-- The lowest failing test: none fails.
pub lowest_none : (n : ℕ) (b : Bool) (cs : List (ℕ × Bool)) → lowest ((n, b) ∷ cs) ≡ none → (b ≡ false) × (lowest cs ≡ none)
unfolding lowest
lowest_none n true cs e = let z : ◌≡◌ {A = ℕ} 0 1 = cc in absurd (omega arith)
lowest_none n false cs e = (refl, e)

-- Two numbers: one below the other, or equal.
pub trichotomy : (i j : ℕ) → (i < j) ⊎ ((i ≡ j) ⊎ (j < i))
trichotomy i j = go (dec_lt i j) (dec_lt j i)
  where
    go : Dec (i < j) → Dec (j < i) → (i < j) ⊎ ((i ≡ j) ⊎ (j < i))
    go (yes h) d = inl h
    go (no h) (yes k) = inr (inr k)
    go (no h) (no k) = inr (inl (omega arith))

-- A first value is that of a member.
pub first_mem : {A B : Type 0} (f : A → Option B) (xs : List A) {b : B} → first_of f xs ≡ some b → (a : A) × (a ∈ xs) × (f a ≡ some b)
unfolding first_of
first_mem f [] e = let z : ◌≡◌ {A = ℕ} 0 1 = cc in absurd (omega arith)
first_mem f (x ∷ xs) {b} e = go (f x) refl (λ q. first_mem f xs q) e
  where
    go : (o : Option _) → f x ≡ o → (first_of f xs ≡ some b → (a : _) × (a ∈ xs) × (f a ≡ some b)) → or_else o (first_of f xs) ≡ some b
        → (a : _) × (a ∈ (x ∷ xs)) × (f a ≡ some b)
    go none p ih e = let r = ih e in (r.0, Memᴰ.tail r.1, r.2)
    go (some c) p ih e = (x, Memᴰ.head refl, p ∙ e)

-- A value that a test picks is there only where the test holds.
pub picked : {A : Type 0} (b : Bool) (x : A) {y : A} → pick b (some x) none ≡ some y → (b ≡ true) × (x ≡ y)
picked true x e = (refl, cc)
picked false x e = let z : ◌≡◌ {A = ℕ} 0 1 = cc in absurd (omega arith)

-- A member at a place.
pub mem_at : {A : Type 0} (xs : List A) (i : ℕ) (d : A) → i < length xs → get_or xs i d ∈ xs
mem_at [] i d h = absurd (omega arith)
mem_at (x ∷ xs) zero d h = Memᴰ.head refl
mem_at (x ∷ xs) (suc i) d h = Memᴰ.tail (mem_at xs i d (omega arith))
