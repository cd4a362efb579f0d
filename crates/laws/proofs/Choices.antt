-- Laws of the definition's list functions.
use mathlib.Core.List.Memᴰ
use mathlib.Core.List.{List, [], ◌∷◌, ◌++◌}
use mathlib.Core.Option.{Option, none, some}
use mathlib.Core.Path.{◌≡◌, refl, sym}
use Rattle.definition.specs.Base.{or_else, each, last_of, ◌∈◌}

module _ {A : Type 0} where
  pub or_none : (o : Option A) → or_else o none ≡ o
  or_none none = refl
  or_none (some a) = refl

  pub or_assoc : (a b c : Option A) → or_else (or_else a b) c ≡ or_else a (or_else b c)
  or_assoc none b c = refl
  or_assoc (some a) b c = refl

  pub last_append : (xs ys : List A) → last_of (xs ++ ys) ≡ or_else (last_of ys) (last_of xs)
  unfolding last_of
  last_append [] ys = sym (or_none (last_of ys))
  last_append (x ∷ xs) ys = rw (last_append xs ys) (or_assoc (last_of ys) (last_of xs) (some x))

-- One function behind another.
pub each_each : {A B C : Type 0} (f : B → C) (g : A → B) (xs : List A) → each f (each g xs) ≡ each (λ (a : A). f (g a)) xs
unfolding each
each_each f g [] = refl
each_each f g (x ∷ xs) = rw (each_each f g xs)

-- Two functions that agree.
pub each_same : {A B : Type 0} (f g : A → B) → ((a : A) → f a ≡ g a) → (xs : List A) → each f xs ≡ each g xs
unfolding each
each_same f g h [] = refl
each_same f g h (x ∷ xs) = rw (h x, each_same f g h xs)

-- Functions that agree on a list.
pub each_alike : {A B : Type 0} (f g : A → B) (xs : List A) → ((a : A) → a ∈ xs → f a ≡ g a) → each f xs ≡ each g xs
unfolding each
each_alike f g [] h = refl
each_alike f g (x ∷ xs) h = rw (h x (Memᴰ.head refl), each_alike f g xs (λ a m. h a (Memᴰ.tail m)))
