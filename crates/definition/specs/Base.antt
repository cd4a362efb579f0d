-- Choices, tests and list functions that the other modules use.
use Rattle.std.specs.Prelude.{Bool, true, false, ◌&&◌, ◌||◌, ℕ, zero, suc, ◌+◌, eqb, ltb}
use mathlib.Core.List.{List, [], ◌∷◌, ◌++◌, Memᴰ}
use Rattle.std.proofs.Math.Option.{Option, none, some}

-- An answer: refused with a number of document 01, or accepted with a value.
pub data Outcome (A : Type 0) : Type 0 where
  refused : ℕ → Outcome A
  accepted : A → Outcome A

-- The next step, where this one was accepted; a refusal is passed on.
abbrev pub on_accepted : {A B : Type 0} → Outcome A → (A → Outcome B) → Outcome B
on_accepted (refused n) f = refused n
on_accepted (accepted a) f = f a

-- If the test holds the first, else the second.
abbrev pub pick : {A : Type 0} → Bool → A → A → A
pick true a b = a
pick false a b = b

-- The same for branches that are computed only when taken.
abbrev pub when : {A : Type 0} → Bool → (Unit {0} → A) → (Unit {0} → A) → A
when true a b = a tt
when false a b = b tt

-- Whether there is a value.
abbrev pub given : {A : Type 0} → Option A → Bool
given (some a) = true
given none = false

-- The first value where there is one, else the second.
abbrev pub or_else : {A : Type 0} → Option A → Option A → Option A
or_else (some a) b = some a
or_else none b = b

-- The value, or where there is none the other one.
abbrev pub or_default : {A : Type 0} → Option A → A → A
or_default (some a) b = a
or_default none b = b

-- a ∷ xs where the test holds, else xs.
abbrev pub cons_if : {A : Type 0} → Bool → A → List A → List A
cons_if true a xs = a ∷ xs
cons_if false a xs = xs

-- The members for which p holds, in order.
unfoldable pub keep : {A : Type 0} → (A → Bool) → List A → List A
keep p [] = []
keep p (a ∷ xs) = cons_if (p a) a (keep p xs)

-- f of each member, in order.
unfoldable pub each : {A B : Type 0} → (A → B) → List A → List B
each f [] = []
each f (a ∷ xs) = f a ∷ each f xs

-- The lists f gives for the members, one behind the other.
unfoldable pub joined : {A B : Type 0} → (A → List B) → List A → List B
joined f [] = []
joined f (a ∷ xs) = f a ++ joined f xs

-- Whether p holds for some member.
unfoldable pub any : {A : Type 0} → (A → Bool) → List A → Bool
any p [] = false
any p (a ∷ xs) = p a || any p xs

-- Whether p holds for every member.
unfoldable pub all : {A : Type 0} → (A → Bool) → List A → Bool
all p [] = true
all p (a ∷ xs) = p a && all p xs

-- The first value that f has for a member.
unfoldable pub first_of : {A B : Type 0} → (A → Option B) → List A → Option B
first_of f [] = none
first_of f (a ∷ xs) = or_else (f a) (first_of f xs)

-- The last member.
unfoldable pub last_of : {A : Type 0} → List A → Option A
last_of [] = none
last_of (a ∷ xs) = or_else (last_of xs) (some a)

-- All members but the last.
unfoldable pub but_last : {A : Type 0} → List A → List A
but_last [] = []
but_last (a ∷ []) = []
but_last (a ∷ b ∷ xs) = a ∷ but_last (b ∷ xs)

-- Whether there is no member.
abbrev pub empty : {A : Type 0} → List A → Bool
empty [] = true
empty (a ∷ xs) = false

-- Whether n is a member.
unfoldable pub has : ℕ → List ℕ → Bool
has n = any (λ (m : ℕ). eqb m n)

-- The count numbers from first on.
unfoldable pub span : ℕ → ℕ → List ℕ
span zero first = []
span (suc count) first = first ∷ span count (first + 1)

-- The place of n in a list whose first place is i; behind the list where it isn't in it.
unfoldable pub place_from : ℕ → ℕ → List ℕ → ℕ
place_from i n [] = i
place_from i n (m ∷ ms) = pick (eqb m n) i (place_from (i + 1) n ms)

-- Whether two lists of numbers are the same.
unfoldable pub same_list : List ℕ → List ℕ → Bool
same_list [] [] = true
same_list [] (y ∷ ys) = false
same_list (x ∷ xs) [] = false
same_list (x ∷ xs) (y ∷ ys) = eqb x y && same_list xs ys

-- Records: 'ordered bytewise, a prefix first'; 'Lists of numbers compare like names.'
unfoldable pub less : List ℕ → List ℕ → Bool
less [] [] = false
less [] (y ∷ ys) = true
less (x ∷ xs) [] = false
less (x ∷ xs) (y ∷ ys) = pick (ltb x y) true (pick (ltb y x) false (less xs ys))

-- The lowest number whose test fails, of tests in ascending order: (number, whether it fails).
unfoldable pub lowest : List (ℕ × Bool) → Option ℕ
lowest [] = none
lowest (c ∷ cs) = pick c.1 (some c.0) (lowest cs)

infix 20 ◌∈◌
-- a is a member of a list.
abbrev pub ◌∈◌ : {A : Type 0} → A → List A → Type 0
a ∈ xs = Memᴰ a xs
