-- The fields of a record's part stand in the order of its grammar, for any grammar.
use Prim.Native.Nat.{ℕ}
use mathlib.Core.Bool.{Bool, true, false}
use mathlib.Core.List.{List, [], ◌∷◌}
use mathlib.Core.Path.{◌≡◌, refl}
use lib.Dec.{eqb}
use Rattle.definition.specs.Base.{pick, when, keep}
use Rattle.definition.specs.Records.{Field, Fields, end, bad, ◌▸◌, Grammar, follows, placed, in_front, with_letter}
use borrow.Author.Tests.{eqb-true, eqb-false, ne_eqb}
use Rattle.group.specs.Sections.{trailing, Ordered}

pub placed_ordered : (g : Grammar) (behind : ℕ) (fs : Fields) → Ordered g behind (placed g behind fs).fields
unfolding Ordered placed
placed_ordered g behind end = tt
placed_ordered g behind bad = tt
placed_ordered g behind (f ▸ fs) = go (follows g.places behind f.letter) refl (placed_ordered g f.letter fs)
  where
    go : (t : Bool) → follows g.places behind f.letter ≡ t → Ordered g f.letter (placed g f.letter fs).fields
        → Ordered g behind (when t (λ _. in_front f (placed g f.letter fs)) (λ _. record { fields = []; whole = false })).fields
    go true e o = (e, o)
    go false e o = tt

module _ (g : Grammar) (letter : ℕ) (Before : ℕ → Type 0) where
  -- Behind the leading fields of a letter stands what may: where each field of another letter has a property, that has it.
  pub behind_leading : (Then : List Field → Type 0) → Then [] → Before letter
      → ((behind : ℕ) (f : Field) (fs : List Field) → Before behind → (f.letter ≡ letter → ⊥) → Ordered g behind (f ∷ fs) → Then (f ∷ fs))
      → (behind : ℕ) (fs : List Field) → Before behind → Ordered g behind fs → Then (trailing letter fs)
  unfolding trailing Ordered
  behind_leading Then none again other behind [] b o = none
  behind_leading Then none again other behind (f ∷ fs) b o =
      go (eqb f.letter letter) refl (λ q. behind_leading Then none again other letter fs again q)
    where
      go : (t : Bool) → eqb f.letter letter ≡ t → (Ordered g letter fs → Then (trailing letter fs)) → Then (pick t (trailing letter fs) (f ∷ fs))
      go true e rest = rest (rw (eqb-true f.letter letter e) at o.1)
      go false e rest = other behind f fs b (eqb-false f.letter letter e) o

  -- A letter that no field may have stands nowhere.
  pub absent : ((behind : ℕ) (l : ℕ) → Before behind → follows g.places behind l ≡ true → (l ≡ letter → ⊥) × Before l)
      → (behind : ℕ) (fs : List Field) → Before behind → Ordered g behind fs → with_letter letter fs ≡ []
  unfolding with_letter keep Ordered
  absent step behind [] b o = refl
  absent step behind (f ∷ fs) b o =
      let n = step behind f.letter b o.0 in
      rw (ne_eqb f.letter letter n.0) (absent step f.letter fs n.1 o.1)
