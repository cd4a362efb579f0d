-- Blocks of a letter, where a list of fields grows at its end.
use Prim.Native.Nat.{ℕ, zero, suc, ◌+◌, ◌<◌}
use native.Mathlib.Omega.{arith}
use mathlib.Core.Bool.{Bool, true, false}
use mathlib.Core.List.{List, [], ◌∷◌, ◌++◌}
use mathlib.Core.Path.{◌≡◌, refl, ◌∙◌}
use lib.Dec.{eqb}
use lib.ListN.{length, get_or}
use borrow.Author.Tests.{eq-eqb, ne_eqb}
use Rattle.definition.specs.Base.{pick, cons_if, keep}
use Rattle.definition.specs.Records.{Field, Block, with_letter, up_to, blocks}
use Rattle.records.proofs.Lists.{keep_append}

-- A field more: in the last block.
unfoldable pub add_last : Field → List Block → List Block
add_last f [] = []
add_last f (b ∷ []) = record { head = b.head; body = b.body ++ (f ∷ []) } ∷ []
add_last f (b ∷ c ∷ bs) = b ∷ add_last f (c ∷ bs)

pub length_add : (f : Field) (bs : List Block) → length (add_last f bs) ≡ length bs
unfolding add_last
length_add f [] = refl
length_add f (b ∷ []) = refl
length_add f (b ∷ c ∷ bs) = rw (length_add f (c ∷ bs))

pub add_here : (f : Field) (bs : List Block) (k : ℕ) (d : Block) → k + 1 ≡ length bs
    → get_or (add_last f bs) k d ≡ record { head = (get_or bs k d).head; body = (get_or bs k d).body ++ (f ∷ []) }
unfolding add_last
add_here f [] k d e = absurd (omega arith)
add_here f (b ∷ []) zero d e = refl
add_here f (b ∷ []) (suc k) d e = absurd (omega arith)
add_here f (b ∷ c ∷ bs) zero d e = absurd (omega arith)
add_here f (b ∷ c ∷ bs) (suc k) d e = add_here f (c ∷ bs) k d (omega arith)

pub add_other : (f : Field) (bs : List Block) (k : ℕ) (d : Block) → (k + 1 ≡ length bs → ⊥) → get_or (add_last f bs) k d ≡ get_or bs k d
unfolding add_last
add_other f [] k d e = refl
add_other f (b ∷ []) zero d e = absurd (e (omega arith))
add_other f (b ∷ []) (suc k) d e = refl
add_other f (b ∷ c ∷ bs) zero d e = refl
add_other f (b ∷ c ∷ bs) (suc k) d e = add_other f (c ∷ bs) k d (λ q. e (omega arith))

module _ (letter : ℕ) (f : Field) where
  pub with_snoc : (fs : List Field) → with_letter letter (fs ++ (f ∷ [])) ≡ with_letter letter fs ++ cons_if (eqb f.letter letter) f []
  unfolding with_letter keep
  with_snoc fs = keep_append (λ (g : Field). eqb g.letter letter) fs (f ∷ [])

  -- Behind a field of the letter a new block begins.
  module _ (e : f.letter ≡ letter) where
    up_append : (xs ys : List Field) → up_to letter (xs ++ (f ∷ ys)) ≡ up_to letter xs
    unfolding up_to
    up_append [] ys = rw (eq-eqb _ _ e)
    up_append (x ∷ xs) ys = rw (up_append xs ys)

    pub blocks_append : (xs ys : List Field) → blocks letter (xs ++ (f ∷ ys)) ≡ blocks letter xs ++ blocks letter (f ∷ ys)
    unfolding blocks
    blocks_append [] ys = refl
    blocks_append (x ∷ xs) ys = rw (up_append xs ys, blocks_append xs ys) (go (eqb x.letter letter) (blocks letter xs) (blocks letter (f ∷ ys)))
      where
        go : (b : Bool) (bs cs : List Block) → pick b (record { head = x; body = up_to letter xs } ∷ (bs ++ cs)) (bs ++ cs)
            ≡ pick b (record { head = x; body = up_to letter xs } ∷ bs) bs ++ cs
        go true bs cs = refl
        go false bs cs = refl

    pub blocks_new : (xs : List Field) → blocks letter (xs ++ (f ∷ [])) ≡ blocks letter xs ++ (record { head = f; body = [] } ∷ [])
    unfolding blocks up_to
    blocks_new xs = blocks_append xs [] ∙ rw (eq-eqb _ _ e)

  -- Any other field goes to the last block.
  module _ (e : f.letter ≡ letter → ⊥) where
    abbrev ends : List Block → List Field → List Field
    ends [] ys = ys ++ (f ∷ [])
    ends (b ∷ bs) ys = ys

    up_snoc : (xs : List Field) → up_to letter (xs ++ (f ∷ [])) ≡ ends (blocks letter xs) (up_to letter xs)
    unfolding up_to blocks
    up_snoc [] = rw (ne_eqb _ _ e)
    up_snoc (x ∷ xs) = go (eqb x.letter letter) (blocks letter xs) (up_snoc xs)
      where
        go : (b : Bool) (bs : List Block) → up_to letter (xs ++ (f ∷ [])) ≡ ends bs (up_to letter xs) → pick b [] (x ∷ up_to letter (xs ++ (f ∷ [])))
            ≡ ends (pick b (record { head = x; body = up_to letter xs } ∷ bs) bs) (pick b [] (x ∷ up_to letter xs))
        go true bs i = refl
        go false [] i = rw i
        go false (c ∷ bs) i = rw i

    pub blocks_add : (xs : List Field) → blocks letter (xs ++ (f ∷ [])) ≡ add_last f (blocks letter xs)
    unfolding blocks add_last
    blocks_add [] = rw (ne_eqb _ _ e)
    blocks_add (x ∷ xs) = rw (up_snoc xs, blocks_add xs) (go (eqb x.letter letter) (blocks letter xs))
      where
        go : (b : Bool) (bs : List Block) → pick b (record { head = x; body = ends bs (up_to letter xs) } ∷ add_last f bs) (add_last f bs)
            ≡ add_last f (pick b (record { head = x; body = up_to letter xs } ∷ bs) bs)
        go true [] = refl
        go true (c ∷ bs) = refl
        go false bs = refl

-- The head of a block has the letter, and its body has none of it.
pub head_letter : (letter : ℕ) (fs : List Field) (k : ℕ) (d : Block) → k < length (blocks letter fs)
    → eqb (get_or (blocks letter fs) k d).head.letter letter ≡ true
unfolding blocks
head_letter letter [] k d h = absurd (omega arith)
head_letter letter (x ∷ xs) k d h = go (eqb x.letter letter) refl (head_letter letter xs) k h
  where
    go : (b : Bool) → eqb x.letter letter ≡ b
        → ((k : ℕ) (d : Block) → k < length (blocks letter xs) → eqb (get_or (blocks letter xs) k d).head.letter letter ≡ true) → (k : ℕ)
        → k < length (pick b (record { head = x; body = up_to letter xs } ∷ blocks letter xs) (blocks letter xs))
        → eqb (get_or (pick b (record { head = x; body = up_to letter xs } ∷ blocks letter xs) (blocks letter xs)) k d).head.letter letter ≡ true
    go true e i zero h = e
    go true e i (suc k) h = i k d (omega arith)
    go false e i k h = i k d h
