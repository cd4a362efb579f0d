-- Where the first conclusion of a rule stands: the definition's count of bytes, along the runs that the check went.
use Prim.Native.Nat.{ℕ, zero, suc, ◌+◌}
use native.Mathlib.Omega.{arith}
use mathlib.Core.Bool.{Bool, true, false}
use mathlib.Core.List.{List, [], ◌∷◌, ◌++◌}
use mathlib.Core.Path.{◌≡◌, refl, ◌∙◌, ap}
use lib.Dec.{eqb}
use borrow.Author.Tests.{eq-eqb}
use Rattle.definition.specs.Base.{pick, cons_if, keep}
use Rattle.definition.specs.Letters.{letter_u, letter_h}
use Rattle.definition.specs.Records.{Field, with_letter}
use Rattle.definition.specs.Scope.{field_size, conclusion_at}
use Rattle.records.specs.Places.{field_at, field_of, Run, none, more, got}
use Rattle.records.proofs.Link.{got_is}
use Rattle.records.proofs.Numbers.{length_stretch}
use Rattle.group.specs.Sections.{leading}

-- What is looked for: rules still to begin, then a conclusion.
abbrev sought_of : ℕ → ℕ
sought_of zero = letter_h
sought_of (suc r) = letter_u

-- A field's bytes end where the next one starts.
field_end : (s : List ℕ) (at : ℕ) {letter start len next : ℕ} → field_at s at ≡ got letter start len next → at + field_size (field_of s letter start len) ≡ next
field_end s at {letter} {start} {len} e = let g = got_is s at e in let l = length_stretch s start len (omega arith) in omega arith

-- The first is of another letter.
not_first : (letter : ℕ) (f : Field) (fs : List Field) → with_letter letter (f ∷ fs) ≡ [] → (eqb f.letter letter ≡ false) × (with_letter letter fs ≡ [])
unfolding with_letter keep
not_first letter f fs e = go (eqb f.letter letter) refl e
  where
    go : (t : Bool) → eqb f.letter letter ≡ t → cons_if t f (with_letter letter fs) ≡ [] → (eqb f.letter letter ≡ false) × (with_letter letter fs ≡ [])
    go true q e = let z : ◌≡◌ {A = ℕ} 0 1 = cc in absurd (omega arith)
    go false q e = (q, e)

-- Fields among which nothing is found are passed.
pub passed_over : {s : List ℕ} {at end : ℕ} {xs : List Field} → Run s at end xs → (r : ℕ) (ys : List Field) → with_letter (sought_of r) xs ≡ []
    → conclusion_at r (xs ++ ys) at ≡ conclusion_at r ys end
unfolding conclusion_at
passed_over none r ys e = refl
passed_over {s} (more {at = at} {letter = l} {start = b} {len = n} {next = x} {fs = xs} d q) r ys e =
    let w = not_first (sought_of r) (field_of s l b n) xs e in
    step r w.0 ∙ rw (field_end s at d) (passed_over q r ys w.1)
  where
    step : (r : ℕ) → eqb l (sought_of r) ≡ false
        → conclusion_at r (field_of s l b n ∷ (xs ++ ys)) at ≡ conclusion_at r (xs ++ ys) (at + field_size (field_of s l b n))
    step zero e = rw e
    step (suc r) e = ap (λ (t : Bool). conclusion_at (pick t r (suc r)) (xs ++ ys) (at + field_size (field_of s l b n))) e

-- A rule begins with its U field.
pub begun : (s : List ℕ) (at : ℕ) {l start len next : ℕ} → field_at s at ≡ got l start len next → l ≡ letter_u → (r : ℕ) (ys : List Field)
    → conclusion_at (suc r) (field_of s l start len ∷ ys) at ≡ conclusion_at r ys next
unfolding conclusion_at
begun s at {l} e u r ys = rw (eq-eqb l letter_u u, field_end s at e)

-- The first conclusion is found.
pub found : (fs : List Field) (at : ℕ) → (leading letter_h fs ≡ [] → ⊥) → conclusion_at zero fs at ≡ at
unfolding leading conclusion_at
found [] at n = refl
found (f ∷ fs) at n = go (eqb f.letter letter_h) n
  where
    go : (t : Bool) → (pick t (f ∷ leading letter_h fs) [] ≡ [] → ⊥) → pick t at (conclusion_at zero fs (at + field_size f)) ≡ at
    go true n = refl
    go false n = absurd (n refl)
