-- The letters and their places; which may stand behind which.
use Prim.Native.Nat.{ℕ, zero, suc, ◌+◌, ◌-◌, ◌*◌, ◌≤◌, ◌<◌}
use native.Mathlib.Omega.{arith}
use native.Mathlib.Decide.{ℕ_discrete}
use native.Mathlib.Nat.{zero-add}
use mathlib.Core.Bool.{Bool, true, false, not, ◌||◌}
use mathlib.Core.List.{List, [], ◌∷◌}
use mathlib.Core.Logic.{◌⊎◌, inl, inr}
use mathlib.Core.Path.{◌≡◌, refl, sym, ◌∙◌, ap}
use lib.Dec.{eqb, ltb, leb}
use lib.ListN.{length, get_or}
use borrow.Author.Tests.{eq-eqb, ne_eqb, eqb-true, eqb-false, ltb-false, leb-true, lt-ltb, le-ltb, le-leb, lt-leb}
use Rattle.definition.specs.Base.{pick, any, all, has, each, span, place_from}
use Rattle.definition.specs.Letters.{letter_n, start}
use Rattle.definition.specs.Limits.{structure_limit}
use Rattle.definition.specs.Records.{Place, follows}
use Rattle.definition.specs.Rule.{rule_grammar}
use Rattle.laws.proofs.Lists.{or_right, or_left, never}
use Rattle.records.proofs.Lists.{all_get}
use Rattle.rule.specs.Layout.{order, letter_at, place_of, place_n, place_s, place_e, place_i, place_m, place_x, letters, may_follow, section_at}

-- Where a number stands in a list.
pub place_ge : (i n : ℕ) (ms : List ℕ) → i ≤ place_from i n ms
unfolding place_from
place_ge i n [] = omega arith
place_ge i n (m ∷ ms) = go (eqb m n) (place_ge (i + 1) n ms)
  where
    go : (b : Bool) → i + 1 ≤ place_from (i + 1) n ms → i ≤ pick b i (place_from (i + 1) n ms)
    go true h = omega arith
    go false h = omega arith

pub place_get : (i n : ℕ) (ms : List ℕ) (d : ℕ) → place_from i n ms < i + length ms → get_or ms (place_from i n ms - i) d ≡ n
unfolding place_from
place_get i n [] d h = absurd (omega arith)
place_get i n (m ∷ ms) d h = go (eqb m n) refl (place_get (i + 1) n ms d) h
  where
    go : (b : Bool) → eqb m n ≡ b → (place_from (i + 1) n ms < i + 1 + length ms → get_or ms (place_from (i + 1) n ms - (i + 1)) d ≡ n)
        → pick b i (place_from (i + 1) n ms) < i + length (m ∷ ms) → get_or (m ∷ ms) (pick b i (place_from (i + 1) n ms) - i) d ≡ n
    go true e r h = let z : i - i ≡ 0 = omega arith in rw z (eqb-true _ _ e)
    go false e r h =
        let a = place_ge (i + 1) n ms in
        let z : place_from (i + 1) n ms - i ≡ suc (place_from (i + 1) n ms - (i + 1)) = omega arith in
        rw z (r (omega arith))

pub place_none : (i n : ℕ) (ms : List ℕ) → i + length ms ≤ place_from i n ms → has n ms ≡ false
unfolding place_from has any
place_none i n [] h = refl
place_none i n (m ∷ ms) h = go (eqb m n) (place_none (i + 1) n ms) h
  where
    go : (b : Bool) → (i + 1 + length ms ≤ place_from (i + 1) n ms → has n ms ≡ false) → i + length (m ∷ ms) ≤ pick b i (place_from (i + 1) n ms)
        → (b || has n ms) ≡ false
    go true r h = absurd (omega arith)
    go false r h = r (omega arith)

pub get_d_span : (n a i d : ℕ) → i < n → get_or (span n a) i d ≡ a + i
unfolding span
get_d_span zero a i d h = absurd (omega arith)
get_d_span (suc n) a zero d h = omega arith
get_d_span (suc n) a (suc i) d h = get_d_span n (a + 1) i d (omega arith) ∙ omega arith

pub length_span : (n a : ℕ) → length (span n a) ≡ n
unfolding span
length_span zero a = refl
length_span (suc n) a = rw (length_span n (a + 1))

-- A test of each number below n holds for one of them.
below : (p : ℕ → Bool) (n : ℕ) → all p (span n 0) ≡ true → (i : ℕ) → i < n → p i ≡ true
below p n e i h = rw (get_d_span n 0 i 0 h, zero-add i) at (all_get p (span n 0) i 0 e (rw (length_span n 0) h))

-- A letter with a place is the one at that place, and the places differ.
pub letter_is : (letter q : ℕ) → place_of letter ≡ q → q ≤ place_x → letter ≡ letter_at q
unfolding place_of letter_at
letter_is letter q e h = let z : q - 0 ≡ q = omega arith in sym (rw (e, z) at (place_get 0 letter order 0 (rw e (omega arith))))

places_test : all (λ (i : ℕ). eqb (place_of (letter_at i)) i) (span (place_x + 1) 0) ≡ true
unfolding all span place_of letter_at place_from
places_test = refl

pub place_is : (q : ℕ) → q ≤ place_x → place_of (letter_at q) ≡ q
place_is q h = eqb-true _ _ (below (λ (i : ℕ). eqb (place_of (letter_at i)) i) (place_x + 1) places_test q (omega arith))

pub same_test : (a b c d : ℕ) → (a ≡ b → c ≡ d) → (c ≡ d → a ≡ b) → eqb a b ≡ eqb c d
same_test a b c d f g = go (ℕ_discrete a b)
  where
    go : Dec (a ≡ b) → eqb a b ≡ eqb c d
    go (yes e) = eq-eqb a b e ∙ sym (eq-eqb c d (f e))
    go (no e) = ne_eqb a b e ∙ sym (ne_eqb c d (λ q. e (g q)))

pub letter_test : (letter q r : ℕ) → place_of letter ≡ q → q ≤ place_x → r ≤ place_x → eqb letter (letter_at r) ≡ eqb q r
letter_test letter q r e h k = same_test letter (letter_at r) q r
    (λ x. sym e ∙ ap place_of x ∙ place_is r k)
    (λ x. letter_is letter q e h ∙ ap letter_at x)

-- Which may stand behind which, for all pairs of places.
abbrev same : Bool → Bool → Bool
same a b = pick a b (not b)

same_is : (a b : Bool) → same a b ≡ true → a ≡ b
same_is true b e = sym e
same_is false true e = never refl (sym e)
same_is false false e = refl

abbrev follows_row : ℕ → ℕ → Bool
follows_row i j = same (follows rule_grammar.places (letter_at i) (letter_at j)) (may_follow i j)

follows_test : all (λ (i : ℕ). all (follows_row i) (span (place_x + 1) 0)) (span (place_x + 1) 0) ≡ true
unfolding all span follows any has letter_at may_follow
follows_test = refl

pub follows_is : (b q : ℕ) → b ≤ place_x → q ≤ place_x → follows rule_grammar.places (letter_at b) (letter_at q) ≡ may_follow b q
follows_is b q h k =
    let row = below (λ (i : ℕ). all (follows_row i) (span (place_x + 1) 0)) (place_x + 1) follows_test b (omega arith) in
    same_is _ _ (below (follows_row b) (place_x + 1) row q (omega arith))

-- S and every letter behind it may stand last.
abbrev last_row : ℕ → Bool
last_row i = same (has (letter_at i) rule_grammar.last) (leb place_s i)

last_rows : all last_row (span (place_x + 1) 0) ≡ true
unfolding all span any has letter_at
last_rows = refl

pub last_is : (b : ℕ) → b ≤ place_x → has (letter_at b) rule_grammar.last ≡ leb place_s b
last_is b h = same_is _ _ (below last_row (place_x + 1) last_rows b (omega arith))

follows_none : (ps : List Place) (b letter : ℕ) → has letter (each (λ (p : Place). p.letter) ps) ≡ false → follows ps b letter ≡ false
unfolding follows any has each
follows_none [] b letter e = refl
follows_none (p ∷ ps) b letter e =
    rw (or_left (eqb p.letter letter) _ e, follows_none ps b letter (or_right (eqb p.letter letter) _ e))

pub follows_far : (b letter : ℕ) → place_x < place_of letter → follows rule_grammar.places b letter ≡ false
unfolding place_of has any each
follows_far b letter h = follows_none rule_grammar.places b letter (or_right (eqb 0 letter) _ (place_none 0 letter order (omega arith)))

behind_s : (b q : ℕ) → place_s ≤ b → b ≤ q → (q ≡ place_s → ⊥) → place_e ≤ q
behind_s b q m z n = go (ℕ_discrete q place_s)
  where
    go : Dec (q ≡ place_s) → place_e ≤ q
    go (yes e) = absurd (n e)
    go (no e) = omega arith

-- What a letter that may follow tells of its place.
pub may_cases : (b q : ℕ) → may_follow b q ≡ true
    → ((q ≡ place_n) × (b ≡ 0)) ⊎ (((q ≡ place_s) × (place_n ≤ b) × (b ≤ place_i)) ⊎ ((place_e ≤ q) × (q ≤ place_x) × (place_s ≤ b) × (b ≤ q)))
unfolding may_follow
may_cases b q e = go (eqb q place_n) (ltb b place_n) (eqb q place_s) (ltb b place_s) (ltb place_x q) refl refl refl refl refl e
  where
    go : (t u v w x : Bool) → eqb q place_n ≡ t → ltb b place_n ≡ u → eqb q place_s ≡ v → ltb b place_s ≡ w → ltb place_x q ≡ x
        → pick t (eqb b 0) (pick u false (pick v (leb b place_i) (pick w false (pick x false (leb b q))))) ≡ true
        → ((q ≡ place_n) × (b ≡ 0)) ⊎ (((q ≡ place_s) × (place_n ≤ b) × (b ≤ place_i)) ⊎ ((place_e ≤ q) × (q ≤ place_x) × (place_s ≤ b) × (b ≤ q)))
    go true u v w x e₁ e₂ e₃ e₄ e₅ h = inl (eqb-true _ _ e₁, eqb-true _ _ h)
    go false true v w x e₁ e₂ e₃ e₄ e₅ h = never h refl
    go false false true w x e₁ e₂ e₃ e₄ e₅ h = inr (inl (eqb-true _ _ e₃, ltb-false _ _ e₂, leb-true _ _ h))
    go false false false true x e₁ e₂ e₃ e₄ e₅ h = never h refl
    go false false false false true e₁ e₂ e₃ e₄ e₅ h = never h refl
    go false false false false false e₁ e₂ e₃ e₄ e₅ h =
        let l : q ≤ place_x = ltb-false place_x q e₅ in let m : place_s ≤ b = ltb-false b place_s e₄ in let z : b ≤ q = leb-true b q h in
        let n : q ≡ place_s → ⊥ = eqb-false q place_s e₃ in let k : place_e ≤ q = behind_s b q m z n in inr (inr (k, l, m, z))

-- A letter behind S may be repeated.
pub may_repeat : (b : ℕ) → place_s < b → b ≤ place_x → may_follow b b ≡ true
unfolding may_follow
may_repeat b h k =
    rw (
      ne_eqb b place_n (λ z. omega arith),
      le-ltb b place_n (omega arith),
      ne_eqb b place_s (λ z. omega arith),
      le-ltb b place_s (omega arith),
      le-ltb place_x b k,
    )
    (le-leb b b (omega arith))

-- The section of a place.
pub section_first : (n q : ℕ) → q ≤ place_n → section_at n q ≡ 0
unfolding section_at
section_first n q h = rw (le-leb _ _ h)

pub section_inside : (n q : ℕ) → place_s ≤ q → q ≤ place_i → section_at n q ≡ letters * n + q - place_i
unfolding section_at
section_inside n q h k = rw (lt-leb q place_n h, lt-ltb q place_m (omega arith))

pub section_behind : (n q : ℕ) → place_m ≤ q → section_at n q ≡ letters * structure_limit + q - place_i
unfolding section_at
section_behind n q h = rw (lt-leb q place_n (omega arith), le-ltb q place_m h)

-- N stands behind the start alone, and the start behind nothing.
pub not_first : (b : ℕ) → (b ≡ start → ⊥) → follows rule_grammar.places b letter_n ≡ true → ⊥
unfolding follows any has
not_first b h e = never e (rw (ne_eqb start b (λ q. h (sym q))))

pub not_start : (b : ℕ) → follows rule_grammar.places b start ≡ true → ⊥
unfolding follows any
not_start b e = never e refl
