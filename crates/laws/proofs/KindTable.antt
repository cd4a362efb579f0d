-- The walked kinds as a table: at each pair of structures one kind or none. The definition keeps, pair by pair, the kinds of that pair
-- out of a list (`walked_kinds`); a program asks a table for one. Both are the same because each pair stands once in that list (`Once`):
-- K fields ascend, and an X adds only a pair that has no kind yet.
use Prim.Native.Nat.{ℕ}
use native.Mathlib.Omega.{arith}
use mathlib.Core.Path.{◌≡◌, refl, ap, sym, ◌∙◌}
use mathlib.Core.Logic.{⊎_elim}
use mathlib.Core.Bool.{Bool, true, false}
use mathlib.Core.Option.{Option, none, some}
use mathlib.Core.List.Memᴰ
use mathlib.Core.List.{List, [], ◌∷◌, ◌++◌}
use lib.Dec.{eqb}
use lib.ListN.{length}
use borrow.Author.Tests.{eqb-true, eq-eqb}
use Rattle.definition.specs.Base.{pick, or_default, or_else, cons_if, keep, joined, any, first_of, span, less, ◌∈◌}
use Rattle.definition.specs.Rule.{Map, Kind, MorphismKind, Auxiliary, Rule}
use Rattle.definition.specs.Walk.{of_pair, incoming_source, auxiliary_kind, add_pair, completed, walked_kinds}
use Rattle.laws.proofs.Lists.{never, or_else_none, joined_same, bool_cases, and_left, and_right, and_true, any_true, any_false}
use Rattle.laws.proofs.Orders.{Ascending, less_not}
use Rattle.laws.proofs.Choices.{or_none}
use Rattle.laws.proofs.SoundOrder.{kind_key}
use Rattle.laws.specs.KindTable.{kind_of_pair, kind_at, kinds_of, Once}

pair_is : (source target : ℕ) (k : Kind) → of_pair source target k ≡ true → (k.source ≡ source) × (k.target ≡ target)
pair_is source target k h = (eqb-true _ _ (and_left _ _ h), eqb-true _ _ (and_right (eqb k.source source) _ h))

-- None of a pair where each is of another.
keep_none : (source target : ℕ) (ks : List Kind) → ((j : Kind) → j ∈ ks → of_pair source target j ≡ false) → keep (of_pair source target) ks ≡ []
unfolding keep
keep_none source target [] h = refl
keep_none source target (k ∷ ks) h = rw (h k (Memᴰ.head refl)) (keep_none source target ks (λ j m. h j (Memᴰ.tail m)))

same_kind : (source target : ℕ) (k : Kind) → k.source ≡ source → k.target ≡ target → k ∷ [] ≡ record { source = source; target = target; kind = k.kind } ∷ []
same_kind source target k a b = rw (← a, ← b)

-- The kinds of a pair are the one that the table has.
pub kept_once : (source target : ℕ) (ks : List Kind) → Once ks → keep (of_pair source target) ks ≡ kinds_of source target (kind_at ks source target)
unfolding keep kind_at first_of
kept_once source target [] h = refl
kept_once source target (k ∷ ks) h = go (of_pair source target k) refl (kept_once source target ks h.1)
  where
    go : (b : Bool) → of_pair source target k ≡ b → keep (of_pair source target) ks ≡ kinds_of source target (first_of (kind_of_pair source target) ks)
        → cons_if b k (keep (of_pair source target) ks)
        ≡ kinds_of source target (or_else (pick b (some k.kind) none) (first_of (kind_of_pair source target) ks))
    go true e ih =
        let q = pair_is source target k e in
        let n : keep (of_pair source target) ks ≡ [] = keep_none source target ks (λ j m. rw (q.0, q.1) at (h.0 j m)) in
        rw n (same_kind source target k q.0 q.1)
    go false e ih = ih

-- Adding a pair that has no kind yet.
first_append : {A B : Type 0} (f : A → Option B) (xs ys : List A) → first_of f (xs ++ ys) ≡ or_else (first_of f xs) (first_of f ys)
unfolding first_of
first_append f [] ys = refl
first_append f (x ∷ xs) ys = go (f x) (first_append f xs ys)
  where
    go : (o : Option _) → first_of f (xs ++ ys) ≡ or_else (first_of f xs) (first_of f ys)
        → or_else o (first_of f (xs ++ ys)) ≡ or_else (or_else o (first_of f xs)) (first_of f ys)
    go none e = e
    go (some b) e = refl

behind : (ks : List Kind) (k : Kind) (source target : ℕ)
    → kind_at (ks ++ (k ∷ [])) source target ≡ or_else (kind_at ks source target) (kind_of_pair source target k)
unfolding kind_at first_of
behind ks k source target =
    first_append (kind_of_pair source target) ks (k ∷ []) ∙ ap (or_else (first_of (kind_of_pair source target) ks)) (or_none (kind_of_pair source target k))

first_none : {A B : Type 0} (f : A → Option B) (xs : List A) → first_of f xs ≡ none → {a : A} → a ∈ xs → f a ≡ none
unfolding first_of
first_none f [] e m = absurd (Memᴰ.not-nil m)
first_none f (x ∷ xs) e m = let r = or_else_none (f x) (first_of f xs) e in ⊎_elim (λ q. rw q r.0) (λ t. first_none f xs r.1 t) (Memᴰ.cases_cons m)

some_at : (source target : ℕ) (ks : List Kind) → any (of_pair source target) ks ≡ true → kind_at ks source target ≡ none → ⊥
unfolding kind_at
some_at source target ks h e =
    let r = any_true (of_pair source target) ks h in
    let n : kind_of_pair source target r.0 ≡ none = first_none (kind_of_pair source target) ks e r.1 in
    let z : ◌≡◌ {A = ℕ} 0 1 = clash r.0 (rw r.2 at n) in omega arith
  where
    clash : (k : Kind) → some k.kind ≡ none → ◌≡◌ {A = ℕ} 0 1
    clash k e = cc

-- The kind of a pair, when a pair is added.
pub added_at : (ks : List Kind) (k : Kind) (source target : ℕ)
    → kind_at (add_pair ks k) source target ≡ or_else (kind_at ks source target) (kind_of_pair source target k)
unfolding add_pair
added_at ks k source target = go (any (of_pair k.source k.target) ks) refl
  where
    there : (o : Option MorphismKind) → kind_at ks source target ≡ o → (c : Bool) → of_pair source target k ≡ c → any (of_pair k.source k.target) ks ≡ true
        → o ≡ or_else o (pick c (some k.kind) none)
    there (some x) p c q e = refl
    there none p false q e = refl
    there none p true q e = let w = pair_is source target k q in absurd (some_at source target ks (rw (w.0, w.1) at e) p)

    go : (b : Bool) → any (of_pair k.source k.target) ks ≡ b
        → kind_at (pick b ks (ks ++ (k ∷ []))) source target ≡ or_else (kind_at ks source target) (kind_of_pair source target k)
    go true e = there (kind_at ks source target) refl (of_pair source target k) refl e
    go false e = behind ks k source target

-- They still stand once.
pair_sym : (k j : Kind) → of_pair k.source k.target j ≡ false → of_pair j.source j.target k ≡ false
pair_sym k j h = ⊎_elim
    (λ q.
    let w = pair_is j.source j.target k q in
    never (and_true _ _ (eq-eqb j.source k.source (sym w.0)) (eq-eqb j.target k.target (sym w.1))) h)
    (λ q. q) (bool_cases (of_pair j.source j.target k))

once_append : (ks : List Kind) (k : Kind) → Once ks → ((j : Kind) → j ∈ ks → of_pair j.source j.target k ≡ false) → Once (ks ++ (k ∷ []))
once_append [] k h n = (λ j m. absurd (Memᴰ.not-nil m), tt)
once_append (x ∷ ks) k h n = (
  λ j m. ⊎_elim (λ a. h.0 j a) (λ b. let q : j ≡ k = Memᴰ.eq_of_singleton b in rw q (n x (Memᴰ.head refl))) (Memᴰ.append_cases ks m),
  once_append ks k h.1 (λ j m. n j (Memᴰ.tail m)),
)

pub added_once : (ks : List Kind) (k : Kind) → Once ks → Once (add_pair ks k)
unfolding add_pair
added_once ks k h = go (any (of_pair k.source k.target) ks) refl
  where
    go : (b : Bool) → any (of_pair k.source k.target) ks ≡ b → Once (pick b ks (ks ++ (k ∷ [])))
    go true e = h
    go false e = once_append ks k h (λ j m. pair_sym k j (any_false (of_pair k.source k.target) ks e m))

-- Kinds that ascend, as an accepted rule's do, stand once.
pub ascending_once : (ks : List Kind) → Ascending kind_key ks → Once ks
ascending_once [] h = tt
ascending_once (k ∷ ks) h = (λ j m. apart k j (h.0 j m), ascending_once ks h.1)
  where
    apart : (k j : Kind) → less (kind_key k) (kind_key j) ≡ true → of_pair k.source k.target j ≡ false
    apart k j l = ⊎_elim
        (λ q. let w = pair_is k.source k.target j q in never l (rw (w.0, w.1) (less_not (kind_key k))))
        (λ q. q) (bool_cases (of_pair k.source k.target j))

-- All kinds, those of K and those that X adds, stand once.
pub completed_once : (maps : List Map) (ks : List Kind) (xs : List Auxiliary) → Once ks → Once (completed maps ks xs)
unfolding completed
completed_once maps ks [] h = h
completed_once maps ks (x ∷ xs) h = completed_once maps (add_pair ks (record {
  source = or_default (incoming_source maps x.structure) 0;
  target = x.structure;
  kind = auxiliary_kind x.class;
})) xs (added_once ks _ h)

-- The walked kinds, pair by pair.
pub walked_table : (rule : Rule) → Once rule.kinds
    → walked_kinds rule ≡ joined (λ (target : ℕ). joined (λ (source : ℕ).
    kinds_of source target (kind_at (completed rule.maps rule.kinds rule.auxiliaries) source target))
    (span (length rule.structures) 0)) (span (length rule.structures) 0)
unfolding walked_kinds
walked_table rule h = joined_same _ _
    (λ target. joined_same _ _ (λ source. kept_once source target _ (completed_once rule.maps rule.kinds rule.auxiliaries h))
    (span (length rule.structures) 0))
    (span (length rule.structures) 0)
