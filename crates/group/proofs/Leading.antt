-- The leading fields of a letter among the fields of a group.
use Prim.Native.Nat.{ℕ}
use mathlib.Core.Bool.{Bool, true, false}
use mathlib.Core.List.{List, [], ◌∷◌, ◌++◌}
use mathlib.Core.Path.{◌≡◌, refl, sym, ◌∙◌, ap}
use lib.Dec.{eqb}
use borrow.Author.Tests.{eqb-true, eq-eqb, ne_eqb}
use Rattle.definition.specs.Base.{pick, keep}
use Rattle.definition.specs.Records.{Field, with_letter, up_to, blocks}
use Rattle.group.specs.Sections.{leading, trailing}

pub split : (letter : ℕ) (fs : List Field) → fs ≡ leading letter fs ++ trailing letter fs
unfolding leading trailing
split letter [] = refl
split letter (f ∷ fs) = go (eqb f.letter letter) (split letter fs)
  where
    go : (t : Bool) → fs ≡ leading letter fs ++ trailing letter fs → f ∷ fs ≡ pick t (f ∷ leading letter fs) [] ++ pick t (trailing letter fs) (f ∷ fs)
    go true e = ap (λ (gs : List Field). f ∷ gs) e
    go false e = refl

-- The first field, by its letter.
pub with_first : (letter : ℕ) (f : Field) (fs : List Field) → f.letter ≡ letter → with_letter letter (f ∷ fs) ≡ f ∷ with_letter letter fs
unfolding with_letter keep
with_first letter f fs e = rw (eq-eqb f.letter letter e)

module _ (letter : ℕ) (f : Field) (fs : List Field) (n : f.letter ≡ letter → ⊥) where
  pub with_skip : with_letter letter (f ∷ fs) ≡ with_letter letter fs
  unfolding with_letter keep
  with_skip = rw (ne_eqb f.letter letter n)

  pub blocks_skip : blocks letter (f ∷ fs) ≡ blocks letter fs
  unfolding blocks
  blocks_skip = rw (ne_eqb f.letter letter n)

-- They are all of their letter, and none of another.
pub with_same : (letter : ℕ) (fs : List Field) → with_letter letter (leading letter fs) ≡ leading letter fs
unfolding leading with_letter keep
with_same letter [] = refl
with_same letter (f ∷ fs) = go (eqb f.letter letter) refl (with_same letter fs)
  where
    go : (t : Bool) → eqb f.letter letter ≡ t → with_letter letter (leading letter fs) ≡ leading letter fs
        → with_letter letter (pick t (f ∷ leading letter fs) []) ≡ pick t (f ∷ leading letter fs) []
    go true e w = rw (e, w)
    go false e w = refl

module _ (letter other : ℕ) (n : letter ≡ other → ⊥) where
  differs : (f : Field) → eqb f.letter letter ≡ true → eqb f.letter other ≡ false
  differs f e = ne_eqb f.letter other (λ q. n (sym (eqb-true f.letter letter e) ∙ q))

  pub with_other : (fs : List Field) → with_letter other (leading letter fs) ≡ []
  unfolding leading with_letter keep
  with_other [] = refl
  with_other (f ∷ fs) = go (eqb f.letter letter) refl (with_other fs)
    where
      go : (t : Bool) → eqb f.letter letter ≡ t → with_letter other (leading letter fs) ≡ [] → with_letter other (pick t (f ∷ leading letter fs) []) ≡ []
      go true e w = rw (differs f e, w)
      go false e w = refl

  pub upto_leading : (fs gs : List Field) → up_to other (leading letter fs ++ gs) ≡ leading letter fs ++ up_to other gs
  unfolding leading up_to
  upto_leading [] gs = refl
  upto_leading (f ∷ fs) gs = go (eqb f.letter letter) refl (upto_leading fs gs)
    where
      go : (t : Bool) → eqb f.letter letter ≡ t → up_to other (leading letter fs ++ gs) ≡ leading letter fs ++ up_to other gs
          → up_to other (pick t (f ∷ leading letter fs) [] ++ gs) ≡ pick t (f ∷ leading letter fs) [] ++ up_to other gs
      go true e w = rw (differs f e, w)
      go false e w = refl

  pub blocks_leading : (fs gs : List Field) → blocks other (leading letter fs ++ gs) ≡ blocks other gs
  unfolding leading blocks
  blocks_leading [] gs = refl
  blocks_leading (f ∷ fs) gs = go (eqb f.letter letter) refl (blocks_leading fs gs)
    where
      go : (t : Bool) → eqb f.letter letter ≡ t → blocks other (leading letter fs ++ gs) ≡ blocks other gs
          → blocks other (pick t (f ∷ leading letter fs) [] ++ gs) ≡ blocks other gs
      go true e w = rw (differs f e, w)
      go false e w = refl
