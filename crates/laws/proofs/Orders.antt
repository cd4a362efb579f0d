-- The order of lists, and fields that ascend by it. Refusal 6 compares a field only with the last one of its letter; as the order is
-- transitive, fields without a fault ascend as a whole.
use Prim.Native.Nat.{ℕ, ◌+◌}
use native.Mathlib.Omega.{arith}
use mathlib.Core.Path.{◌≡◌, refl}
use mathlib.Core.Logic.{⊎_elim}
use mathlib.Core.Bool.{Bool, true, false}
use mathlib.Core.Option.{Option, none, some}
use mathlib.Core.List.Memᴰ
use mathlib.Core.List.{List, [], ◌∷◌}
use lib.Dec.{ltb}
use borrow.Author.Tests.{ltb-true, ltb-false, lt-ltb, le-ltb}
use Rattle.definition.specs.Base.{each, less, ◌∈◌}
use Rattle.definition.specs.Records.{Field, with_letter, fault_from, fault_among}
use Rattle.laws.proofs.Lists.{never, or_else_none, mem_each}

-- How two numbers compare, as the order of lists asks it.
data Compared (x y : ℕ) : Type 0 where
  below : ltb x y ≡ true → Compared x y
  above : ltb x y ≡ false → ltb y x ≡ true → Compared x y
  equal : ltb x y ≡ false → ltb y x ≡ false → x ≡ y → Compared x y

compared : (x y : ℕ) → Compared x y
compared x y = go (ltb x y) refl (ltb y x) refl
  where
    go : (a : Bool) → ltb x y ≡ a → (b : Bool) → ltb y x ≡ b → Compared x y
    go true p b q = below p
    go false p true q = above p q
    go false p false q = equal p q (omega (arith, ltb-false x y p, ltb-false y x q))

-- Nothing is before itself.
pub less_not : (xs : List ℕ) → less xs xs ≡ false
unfolding less
less_not [] = refl
less_not (x ∷ xs) = rw (le-ltb x x (omega arith)) (less_not xs)

-- What is before what is before a third is before that.
pub less_trans : (xs ys zs : List ℕ) → less xs ys ≡ true → less ys zs ≡ true → less xs zs ≡ true
unfolding less
less_trans [] [] zs p q = never p refl
less_trans [] (y ∷ ys) [] p q = q
less_trans [] (y ∷ ys) (z ∷ zs) p q = refl
less_trans (x ∷ xs) [] zs p q = never p refl
less_trans (x ∷ xs) (y ∷ ys) [] p q = never q refl
less_trans (x ∷ xs) (y ∷ ys) (z ∷ zs) p q = go (compared x y) (compared y z) (λ a b. less_trans xs ys zs a b)
  where
    go : Compared x y → Compared y z → (less xs ys ≡ true → less ys zs ≡ true → less xs zs ≡ true) → less (x ∷ xs) (z ∷ zs) ≡ true
    go (below a) (below b) ih = rw (lt-ltb x z (omega (arith, ltb-true x y a, ltb-true y z b)))
    go (below a) (equal b c e) ih = rw (← e, a)
    go (equal a b e) (below c) ih = rw (e, c)
    go (equal a b e) (equal c d f) ih = rw (e, c, d) (ih (rw (a, b) at p) (rw (c, d) at q))
    go (above a b) w ih = never (rw (a, b) at p) refl
    go (below a) (above b c) ih = never (rw (b, c) at q) refl
    go (equal a b e) (above c d) ih = never (rw (c, d) at q) refl

-- A list that ascends by a key.
abbrev pub Ascending : {A : Type 0} → (A → List ℕ) → List A → Type 0
Ascending key [] = Unit
Ascending key (a ∷ xs) = ((b : _) → b ∈ xs → less (key a) (key b) ≡ true) × Ascending key xs

-- Fields that pass a check of their order ascend.
module _ (check : ℕ → Option Field → Field → Option ℕ) (key : Field → List ℕ)
    (ordered : (m : ℕ) (g f : Field) → check m (some g) f ≡ none → less (key g) (key f) ≡ true) where
  above_last : (n : ℕ) (last : Field) (fs : List Field) → fault_from check n (some last) fs ≡ none → (f : Field) → f ∈ fs → less (key last) (key f) ≡ true
  unfolding fault_from
  above_last n last [] e f m = absurd (Memᴰ.not-nil m)
  above_last n last (g ∷ fs) e f m =
      let r = or_else_none (check n (some last) g) (fault_from check (n + 1) (some g) fs) e in
      let b = ordered n last g r.0 in
      ⊎_elim (λ q. rw q b) (λ t. less_trans (key last) (key g) (key f) b (above_last (n + 1) g fs r.1 f t)) (Memᴰ.cases_cons m)

  pub ascends : (n : ℕ) (last : Option Field) (fs : List Field) → fault_from check n last fs ≡ none → Ascending key fs
  unfolding fault_from
  ascends n last [] e = tt
  ascends n last (g ∷ fs) e =
      let r = or_else_none (check n last g) (fault_from check (n + 1) (some g) fs) e in
      (λ f m. above_last (n + 1) g fs r.1 f m, ascends (n + 1) (some g) fs r.1)

  pub letter_ascends : (letter : ℕ) (fs : List Field) → fault_among letter check fs ≡ none → Ascending key (with_letter letter fs)
  unfolding fault_among
  letter_ascends letter fs e = ascends 0 none (with_letter letter fs) e

-- Values that have their fields' keys ascend too.
pub ascending_each : {A B : Type 0} (f : A → B) (key_a : A → List ℕ) (key_b : B → List ℕ) (xs : List A) → ((a : A) → a ∈ xs → key_b (f a) ≡ key_a a)
    → Ascending key_a xs → Ascending key_b (each f xs)
unfolding each
ascending_each f key_a key_b [] h a = tt
ascending_each f key_a key_b (x ∷ xs) h a = (
  λ b m. let r = mem_each f xs m in rw (r.2, h x (Memᴰ.head refl), h r.0 (Memᴰ.tail r.1)) (a.0 r.0 r.1),
  ascending_each f key_a key_b xs (λ y m. h y (Memᴰ.tail m)) a.1,
)
