-- Fields in their places, of one letter, in blocks, and without faults: laws for any letter and any grammar. They are asked of lists made
-- by `each` and `joined`, as a writer makes them; `Steps` says that letters follow each other as a grammar has it, to a possible end.
use Prim.Native.Nat.{ℕ, ◌+◌, ◌<◌}
use native.Mathlib.Omega.{arith}
use mathlib.Core.Path.{◌≡◌, refl, ◌∙◌}
use mathlib.Core.Bool.{Bool, true, false}
use mathlib.Core.Option.{Option, none, some}
use mathlib.Core.List.Memᴰ
use mathlib.Core.List.{List, [], ◌∷◌, ◌++◌}
use lib.Dec.{eqb}
use lib.ListN.{length}
use Rattle.definition.specs.Base.{pick, cons_if, keep, each, joined, has, ◌∈◌}
use Rattle.definition.specs.Records.{Field, Grammar, follows, placed, with_letter, up_to, blocks, fault_from}
use Rattle.laws.proofs.Numbers.{listed, with_append}

module _ {A : Type 0} (letter : ℕ) where
  -- All, where each field is of the letter.
  pub with_each : (f : A → Field) → ((a : A) → eqb (f a).letter letter ≡ true) → (xs : List A) → with_letter letter (each f xs) ≡ each f xs
  unfolding with_letter keep each
  with_each f h [] = refl
  with_each f h (x ∷ xs) = rw (h x, with_each f h xs)

  -- None, where no field is of the letter.
  pub with_each_none : (f : A → Field) → ((a : A) → eqb (f a).letter letter ≡ false) → (xs : List A) → with_letter letter (each f xs) ≡ []
  unfolding with_letter keep each
  with_each_none f h [] = refl
  with_each_none f h (x ∷ xs) = rw (h x, with_each_none f h xs)

  -- None, where no list has a field of the letter.
  pub with_joined_none : (f : A → List Field) → ((a : A) → with_letter letter (f a) ≡ []) → (xs : List A) → with_letter letter (joined f xs) ≡ []
  unfolding with_letter keep joined
  with_joined_none f h [] = refl
  with_joined_none f h (x ∷ xs) = with_append letter (f x) (joined f xs) ∙ rw (h x, with_joined_none f h xs)

-- What g undoes of f, it undoes of each member.
pub each_back : {A B : Type 0} (g : B → A) (f : A → B) → ((a : A) → g (f a) ≡ a) → (xs : List A) → each g (each f xs) ≡ xs
unfolding each
each_back g f h [] = refl
each_back g f h (x ∷ xs) = rw (h x, each_back g f h xs)

-- Each field may stand where it stands, and the last at the end.
abbrev pub Steps : Grammar → ℕ → List Field → Type 0
Steps g behind [] = has behind g.last ≡ true
Steps g behind (f ∷ fs) = (follows g.places behind f.letter ≡ true) × Steps g f.letter fs

-- Such fields are a whole record.
pub placed_whole : (g : Grammar) (behind : ℕ) (fs : List Field) → Steps g behind fs → placed g behind (listed fs) ≡ record { fields = fs; whole = true }
unfolding placed listed
placed_whole g behind [] h = rw h
placed_whole g behind (f ∷ fs) h = simp (h.0, placed_whole g f.letter fs h.1)

-- Fields of one letter before others, where those may stand behind it and behind what is before it.
pub steps_each : {A : Type 0} (g : Grammar) (letter behind : ℕ) (f : A → Field) → ((a : A) → (f a).letter ≡ letter)
    → follows g.places behind letter ≡ true → follows g.places letter letter ≡ true
    → (xs : List A) (fs : List Field) → Steps g behind fs → Steps g letter fs → Steps g behind (each f xs ++ fs)
unfolding each
steps_each g letter behind f same to on [] fs here there = here
steps_each g letter behind f same to on (x ∷ xs) fs here there =
    (rw (same x) to, rw (same x) (steps_each g letter letter f same on on xs fs there there))

-- A block goes up to its end where its letter isn't in it.
pub upto_skip : (letter : ℕ) (xs fs : List Field) → with_letter letter xs ≡ [] → up_to letter (xs ++ fs) ≡ xs ++ up_to letter fs
unfolding up_to with_letter keep
upto_skip letter [] fs e = refl
upto_skip letter (x ∷ xs) fs e = go (eqb x.letter letter) (λ t. upto_skip letter xs fs t) e
  where
    go : (b : Bool) → (with_letter letter xs ≡ [] → up_to letter (xs ++ fs) ≡ xs ++ up_to letter fs)
        → cons_if b x (with_letter letter xs) ≡ [] → pick b [] (x ∷ up_to letter (xs ++ fs)) ≡ x ∷ (xs ++ up_to letter fs)
    go true ih e = let z : ◌≡◌ {A = ℕ} 0 1 = cc in absurd (omega arith)
    go false ih e = rw (ih e)

-- Fields of other letters begin no block.
pub blocks_skip : (letter : ℕ) (xs fs : List Field) → with_letter letter xs ≡ [] → blocks letter (xs ++ fs) ≡ blocks letter fs
unfolding blocks with_letter keep
blocks_skip letter [] fs e = refl
blocks_skip letter (x ∷ xs) fs e = go (eqb x.letter letter) (λ t. blocks_skip letter xs fs t) e
  where
    go : (b : Bool) → (with_letter letter xs ≡ [] → blocks letter (xs ++ fs) ≡ blocks letter fs)
        → cons_if b x (with_letter letter xs) ≡ []
        → pick b (record { head = x; body = up_to letter (xs ++ fs) } ∷ blocks letter (xs ++ fs)) (blocks letter (xs ++ fs)) ≡ blocks letter fs
    go true ih e = let z : ◌≡◌ {A = ℕ} 0 1 = cc in absurd (omega arith)
    go false ih e = ih e

-- No fault, where each field passes with any number before it up to the last's.
pub faults_none : {A : Type 0} (check : ℕ → Option Field → Field → Option ℕ) (f : A → Field) (xs : List A) (before : ℕ) (last : Option Field)
    → ((n : ℕ) (l : Option Field) (a : A) → n < before + length xs → a ∈ xs → check n l (f a) ≡ none) → fault_from check before last (each f xs) ≡ none
unfolding fault_from each
faults_none check f [] before last h = refl
faults_none check f (x ∷ xs) before last h =
    rw (h before last x (omega arith) (Memᴰ.head refl))
    (faults_none check f xs (before + 1) (some (f x)) (λ n l a k m. h n l a (omega arith) (Memᴰ.tail m)))
