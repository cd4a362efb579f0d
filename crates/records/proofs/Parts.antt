-- Parts of lists: the first so many, what is left of them, and a stretch.
use Prim.Native.Nat.{ℕ, zero, suc, ◌+◌, ◌*◌, ◌/◌, ◌≤◌, ◌<◌}
use native.Mathlib.Omega.{arith}
use native.Mathlib.Numerals.{add-one}
use mathlib.Core.Bool.{Bool, true, false, ◌&&◌, ◌||◌, and-false}
use mathlib.Core.List.Memᴰ
use mathlib.Core.List.{List, [], ◌∷◌, ◌++◌, append-nil}
use mathlib.Core.Logic.{⊎_elim}
use mathlib.Core.Path.{◌≡◌, refl, sym, ◌∙◌, ap}
use lib.Dec.{eqb}
use lib.ListN.{length, get_or, set, take, drop, length-drop, drop_of_length-le, take-append-drop}
use lib.Seq.{take-suc, take-suc-set}
use borrow.Author.Tests.{eq-eqb, ne_eqb}
use Rattle.definition.specs.Base.{cons_if, keep, each, any, but_last, same_list, ◌∈◌}
use Rattle.definition.specs.Records.{numbers}
use Rattle.laws.proofs.Lists.{never}
use Rattle.records.specs.Places.{stretch}
use Rattle.records.proofs.Link.{one_more}
use Rattle.records.proofs.Numbers.{length_numbers_in}

-- What is first of the rest is a member.
pub drop_mem : {A : Type 0} (i : ℕ) (xs : List A) {x : A} {rest : List A} → drop i xs ≡ x ∷ rest → x ∈ xs
drop_mem zero [] e = let z : ◌≡◌ {A = ℕ} 0 1 = cc in absurd (omega arith)
drop_mem (suc i) [] e = let z : ◌≡◌ {A = ℕ} 0 1 = cc in absurd (omega arith)
drop_mem zero (y ∷ xs) {x} e = let q : x ≡ y = cc in Memᴰ.head q
drop_mem (suc i) (y ∷ xs) e = Memᴰ.tail (drop_mem i xs e)

-- A member stands at some place.
pub mem_place : {A : Type 0} (xs : List A) (d : A) {x : A} → x ∈ xs → (i : ℕ) × (i < length xs) × (get_or xs i d ≡ x)
mem_place [] d m = absurd (Memᴰ.not-nil m)
mem_place (y ∷ xs) d m =
    ⊎_elim (λ q. (0, omega arith, sym q)) (λ t. let r = mem_place xs d t in (suc r.0, omega (arith, r.1), r.2)) (Memᴰ.cases_cons m)

-- Of a list no more is kept than it has.
pub cons_few : {A : Type 0} (b : Bool) (x : A) (ys xs : List A) → length ys ≤ length xs → length (cons_if b x ys) ≤ length (x ∷ xs)
cons_few true x ys xs h = omega arith
cons_few false x ys xs h = omega arith

pub keep_few : {A : Type 0} (p : A → Bool) (xs : List A) → length (keep p xs) ≤ length xs
unfolding keep
keep_few p [] = omega arith
keep_few p (x ∷ xs) = cons_few (p x) x (keep p xs) xs (keep_few p xs)

-- A list taken apart at a place.
pub record Apart {A : Type 0} (xs : List A) (i : ℕ) (x : A) (rest : List A) : Type 0 where
  pub inside : i < length xs
  pub took : take (i + 1) xs ≡ take i xs ++ (x ∷ [])
  pub left : drop (i + 1) xs ≡ rest

module _ {A : Type 0} where
  apart_suc : (xs : List A) (i : ℕ) {x : A} {rest : List A} → drop i xs ≡ x ∷ rest
      → (i < length xs) × (take (suc i) xs ≡ take i xs ++ (x ∷ [])) × (drop (suc i) xs ≡ rest)
  apart_suc [] zero e = let z : ◌≡◌ {A = ℕ} 0 1 = cc in absurd (omega arith)
  apart_suc [] (suc i) e = let z : ◌≡◌ {A = ℕ} 0 1 = cc in absurd (omega arith)
  apart_suc (y ∷ xs) zero e = (omega arith, cc, cc)
  apart_suc (y ∷ xs) (suc i) e = let r = apart_suc xs i e in (omega (arith, r.0), rw r.1, r.2)

  pub apart : (xs : List A) (i : ℕ) {x : A} {rest : List A} → drop i xs ≡ x ∷ rest → Apart xs i x rest
  apart xs i e = let r = apart_suc xs i e in record { inside = r.0; took = rw add-one r.1; left = rw add-one r.2 }

  -- Nothing is left: all was taken.
  pub took_all : (xs : List A) (i : ℕ) → drop i xs ≡ [] → take i xs ≡ xs
  took_all xs i e = sym (append-nil (take i xs)) ∙ rw (← e) (take-append-drop i xs)

  pub none_left : (xs : List A) (i : ℕ) → drop i xs ≡ [] → i ≤ length xs → i ≡ length xs
  none_left xs i e h = let n : length (drop i xs) ≡ 0 = rw e in let l = length-drop i xs in omega arith

  -- One more is taken.
  pub take_more : (xs : List A) (i : ℕ) (d : A) → i < length xs → take (i + 1) xs ≡ take i xs ++ (get_or xs i d ∷ [])
  take_more xs i d h = rw add-one (take-suc xs i d h)

  -- All but the last of so many.
  pub but_last_take : (xs : List A) (n : ℕ) → length xs ≡ suc n → but_last xs ≡ take n xs
  unfolding but_last
  but_last_take [] n e = absurd (omega arith)
  but_last_take (x ∷ []) zero e = refl
  but_last_take (x ∷ []) (suc n) e = absurd (omega arith)
  but_last_take (x ∷ y ∷ xs) zero e = absurd (omega arith)
  but_last_take (x ∷ y ∷ xs) (suc n) e = rw (but_last_take (y ∷ xs) n (omega arith))

  -- One more is stored.
  pub store_more : (xs : List A) (i : ℕ) (a : A) → i < length xs → take (i + 1) (set xs i a) ≡ take i xs ++ (a ∷ [])
  store_more xs i a h = rw add-one (take-suc-set xs i a h)

-- Two lists of one length, from a place on.
module _ (xs ys : List ℕ) {n j : ℕ} (a : length xs ≡ n) (b : length ys ≡ n) where
  both_on : j < n → same_list (drop j xs) (drop j ys) ≡ (eqb (get_or xs j 0) (get_or ys j 0) && same_list (drop (j + 1) xs) (drop (j + 1) ys))
  unfolding same_list
  both_on h = rw (one_more xs j (rw a h), one_more ys j (rw b h))

  pub same_on : j < n → get_or xs j 0 ≡ get_or ys j 0 → same_list (drop j xs) (drop j ys) ≡ same_list (drop (j + 1) xs) (drop (j + 1) ys)
  same_on h e = both_on h ∙ rw (eq-eqb _ _ e)

  pub same_no : j < n → (get_or xs j 0 ≡ get_or ys j 0 → ⊥) → same_list (drop j xs) (drop j ys) ≡ false
  same_no h e = both_on h ∙ rw (ne_eqb _ _ e)

  pub same_end : n ≤ j → same_list (drop j xs) (drop j ys) ≡ true
  unfolding same_list
  same_end h = let p : length xs ≤ j = rw a h in let q : length ys ≤ j = rw b h in rw (drop_of_length-le xs p, drop_of_length-le ys q)

-- Lists of different lengths are not the same.
pub same_sizes : (xs ys : List ℕ) → (length xs ≡ length ys → ⊥) → same_list xs ys ≡ false
unfolding same_list
same_sizes [] [] h = absurd (h refl)
same_sizes [] (y ∷ ys) h = refl
same_sizes (x ∷ xs) [] h = refl
same_sizes (x ∷ xs) (y ∷ ys) h = rw (same_sizes xs ys (λ e. h (ap suc e))) (and-false (eqb x y))

-- Tests of lists one behind the other, of none, and of images.
module _ {A : Type 0} (p : A → Bool) where
  pub any_append : (xs ys : List A) → any p (xs ++ ys) ≡ (any p xs || any p ys)
  unfolding any
  any_append [] ys = refl
  any_append (x ∷ xs) ys = rw (any_append xs ys) (go (p x))
    where
      go : (b : Bool) → (b || (any p xs || any p ys)) ≡ (b || any p xs || any p ys)
      go true = refl
      go false = refl

  pub none_kept : (xs : List A) → any p xs ≡ false → keep p xs ≡ []
  unfolding any keep
  none_kept [] e = refl
  none_kept (x ∷ xs) e = go (p x) e (none_kept xs)
    where
      go : (b : Bool) → (b || any p xs) ≡ false → (any p xs ≡ false → keep p xs ≡ []) → cons_if b x (keep p xs) ≡ []
      go true e r = never refl e
      go false e r = r e

pub any_each : {A B : Type 0} (p : B → Bool) (f : A → B) (xs : List A) → any p (each f xs) ≡ any (λ (a : A). p (f a)) xs
unfolding any each
any_each p f [] = refl
any_each p f (x ∷ xs) = rw (any_each p f xs)

-- So many numbers in a stretch.
module _ (s : List ℕ) (start count : ℕ) (h : start + 2 * count ≤ length s) where
  pub count_in : length (numbers (stretch s start (2 * count))) ≡ count
  count_in = let e : 2 * count / 2 ≡ count = omega arith in length_numbers_in s start (2 * count) h ∙ e
