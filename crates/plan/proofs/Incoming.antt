-- The lowest source of a structure: the map that it is of is found.
use Prim.Native.Nat.{ℕ}
use native.Mathlib.Omega.{arith}
use mathlib.Core.Bool.{true}
use mathlib.Core.List.Memᴰ
use mathlib.Core.List.{List, [], ◌∷◌}
use mathlib.Core.Logic.{◌⊎◌, inl, inr, ⊎_elim}
use mathlib.Core.Option.{Option, none, some}
use mathlib.Core.Path.{◌≡◌, refl}
use lib.Dec.{eqb}
use borrow.Author.Tests.{eq-eqb}
use Rattle.definition.specs.Base.{or_else, or_default, first_of, ◌∈◌, given}
use Rattle.definition.specs.Rule.{Map, Pair}
use Rattle.definition.specs.Walk.{source_into, incoming_source, map_of_pair, pairs_between}
use Rattle.laws.proofs.Lists.{first_mem, picked, never}

-- A map among the maps is found.
first_found : (f : Map → Option (List Pair)) (maps : List Map) {m : Map} → m ∈ maps → given (f m) ≡ true → given (first_of f maps) ≡ true
unfolding first_of
first_found f [] i h = absurd (Memᴰ.not-nil i)
first_found f (x ∷ xs) {m} i h = go (f x) refl (⊎_elim (λ q. inl q) (λ t. inr (first_found f xs t h)) (Memᴰ.cases_cons i))
  where
    go : (o : Option (List Pair)) → f x ≡ o → (m ≡ x) ⊎ (given (first_of f xs) ≡ true) → given (or_else o (first_of f xs)) ≡ true
    go (some ps) e c = refl
    go none e c = ⊎_elim (λ q. let z : given (f x) ≡ true = rw (← q) h in never z (rw e)) (λ r. r) c

pub source_found : (maps : List Map) (target : ℕ) → given (incoming_source maps target) ≡ true
    → given (pairs_between maps (or_default (incoming_source maps target) 0) target) ≡ true
unfolding incoming_source pairs_between
source_found maps target h = go (incoming_source maps target) refl h
  where
    go : (o : Option ℕ) → incoming_source maps target ≡ o → given o ≡ true → given (pairs_between maps (or_default o 0) target) ≡ true
    go none e h = let z : ◌≡◌ {A = ℕ} 0 1 = cc in absurd (omega arith)
    go (some source) e h =
        let r = first_mem (source_into target) maps e in
        let p = picked (eqb r.0.target target) r.0.source r.2 in
        first_found (map_of_pair source target) maps r.1 (rw (eq-eqb r.0.source source p.1, p.0))

-- What is given, as a value.
pub some_given : {A : Type 0} (o : Option A) → given o ≡ true → (a : A) × (o ≡ some a)
some_given (some a) h = (a, refl)
some_given none h = never h refl
