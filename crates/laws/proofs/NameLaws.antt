-- Names: good ones put together, numbers printed, and what tells two printed names apart. If two bases end in no digit, then the
-- digits at the end of a printed name are its number's and no more, so equal names have equal numbers (`name_tells`).
use Prim.Native.Nat.{ℕ, zero, suc, ◌+◌, ◌-◌, ◌*◌, ◌/◌, ◌%◌, ◌^◌, ◌≤◌, ◌<◌}
use native.Mathlib.Omega.{arith}
use native.Mathlib.Nat.{div-add-mod', mod-lt, div-lt_iff_lt-mul, pow-suc}
use mathlib.Core.Path.{◌≡◌, refl, ap, sym, ◌∙◌}
use mathlib.Core.Logic.{⊎_elim}
use mathlib.Core.Bool.{Bool, true, false, ◌||◌}
use mathlib.Core.Option.{Option, none, some}
use mathlib.Core.List.Memᴰ
use mathlib.Core.List.{List, [], ◌∷◌, ◌++◌}
use lib.Dec.{ltb, leb}
use lib.ListN.{length, length-append}
use borrow.Author.Tests.{ltb-false, ltb-true, le-ltb, le-leb, leb-true, not-false}
use Rattle.definition.specs.Base.{pick, or_default, all, last_of, ◌∈◌}
use Rattle.definition.specs.Limits.{first_name_byte, last_name_byte, number_digits}
use Rattle.definition.specs.Letters.{digit_zero, digit_nine}
use Rattle.definition.specs.Records.{name_byte, bad_name}
use Rattle.definition.specs.Names.{digits_to, decimal}
use Rattle.definition.specs.Demands.{digit, ends_in_digit}
use Rattle.laws.proofs.Lists.{and_true, and_left, and_right, or_left, or_right, never, all_mem, mem_all, trichotomy}
use Rattle.laws.proofs.Numbering.{last_mem, last_none}

-- A name within a range of lengths, of bytes that a name may have.
pub record Fine (shortest longest : ℕ) (name : List ℕ) : Type 0 where
  pub long : shortest ≤ length name
  pub short : length name ≤ longest
  pub bytes : (b : ℕ) → b ∈ name → name_byte b ≡ true

pub fine : (shortest longest : ℕ) (name : List ℕ) → bad_name shortest longest name ≡ false → Fine shortest longest name
unfolding bad_name
fine shortest longest name e =
    let a : (ltb (length name) shortest || ltb longest (length name)) ≡ false = or_left _ _ e in
    let n : all name_byte name ≡ true = not-false _ (or_right (ltb (length name) shortest || ltb longest (length name)) _ e) in
    record {
      long = ltb-false _ _ (or_left _ _ a);
      short = ltb-false _ _ (or_right (ltb (length name) shortest) _ a);
      bytes = λ b m. all_mem name_byte name n m;
    }

pub not_bad : (shortest longest : ℕ) (name : List ℕ) → Fine shortest longest name → bad_name shortest longest name ≡ false
unfolding bad_name
not_bad shortest longest name f = rw (le-ltb _ _ f.long, le-ltb _ _ f.short, mem_all name_byte name f.bytes)

-- A name behind another.
pub fine_append : {a b c d : ℕ} (xs ys : List ℕ) → Fine a b xs → Fine c d ys → Fine (a + c) (b + d) (xs ++ ys)
fine_append xs ys f g = record {
  long = rw length-append (omega (arith, f.long, g.long));
  short = rw length-append (omega (arith, f.short, g.short));
  bytes = λ b m. ⊎_elim (λ p. f.bytes b p) (λ q. g.bytes b q) (Memᴰ.append_cases xs m);
}

pub fine_within : {a b c d : ℕ} (xs : List ℕ) → Fine a b xs → c ≤ a → b ≤ d → Fine c d xs
fine_within xs f h k = record { long = omega (arith, f.long); short = omega (arith, f.short); bytes = f.bytes }

-- A number printed: digits, at most so many.
digit_of : (n : ℕ) → n < 10 → digit (digit_zero + n) ≡ true
digit_of n h = and_true _ _ (le-leb digit_zero (digit_zero + n) (omega arith)) (le-leb (digit_zero + n) digit_nine (omega arith))

pub digits_only : (k n : ℕ) (b : ℕ) → b ∈ digits_to k n → digit b ≡ true
unfolding digits_to
digits_only zero n b m = absurd (Memᴰ.not-nil m)
digits_only (suc k) n b m = go (ltb n 10) refl (digits_only k (n / 10)) m
  where
    go : (t : Bool) → ltb n 10 ≡ t → ((c : ℕ) → c ∈ digits_to k (n / 10) → digit c ≡ true)
        → b ∈ pick t ((digit_zero + n) ∷ []) (digits_to k (n / 10) ++ ((digit_zero + n % 10) ∷ [])) → digit b ≡ true
    go true e ih m = let q : b ≡ digit_zero + n = Memᴰ.eq_of_singleton m in rw q (digit_of n (ltb-true _ _ e))
    go false e ih m = ⊎_elim (λ p. ih b p)
        (λ q. let r : b ≡ digit_zero + n % 10 = Memᴰ.eq_of_singleton q in rw r (digit_of (n % 10) (mod-lt n (omega arith))))
        (Memᴰ.append_cases (digits_to k (n / 10)) m)

pub digits_few : (k n : ℕ) → length (digits_to k n) ≤ k
unfolding digits_to
digits_few zero n = omega arith
digits_few (suc k) n = go (ltb n 10) (digits_few k (n / 10))
  where
    go : (t : Bool) → length (digits_to k (n / 10)) ≤ k → length (pick t ((digit_zero + n) ∷ []) (digits_to k (n / 10) ++ ((digit_zero + n % 10) ∷ []))) ≤ suc k
    go true ih = omega arith
    go false ih = rw length-append (omega arith)

pub fine_decimal : (n : ℕ) → Fine 0 number_digits (decimal n)
fine_decimal n = record { long = omega arith; short = digits_few number_digits n; bytes = λ b m. digit_byte b (digits_only number_digits n b m) }
  where
    digit_byte : (b : ℕ) → digit b ≡ true → name_byte b ≡ true
    digit_byte b h = let l = leb-true digit_zero b (and_left _ _ h) in let u = leb-true b digit_nine (and_right (leb digit_zero b) _ h) in
        and_true _ _ (le-leb first_name_byte b (omega arith)) (le-leb b last_name_byte (omega arith))

-- The number that digits print.
unfoldable value_from : ℕ → List ℕ → ℕ
value_from n [] = n
value_from n (d ∷ ds) = value_from (n * 10 + (d - digit_zero)) ds

value_append : (n : ℕ) (ds es : List ℕ) → value_from n (ds ++ es) ≡ value_from (value_from n ds) es
unfolding value_from
value_append n [] es = refl
value_append n (d ∷ ds) es = value_append (n * 10 + (d - digit_zero)) ds es

value_digits : (k n : ℕ) → n < 10 ^ k → value_from 0 (digits_to k n) ≡ n
unfolding digits_to value_from
value_digits zero n h = omega arith
value_digits (suc k) n h = go (ltb n 10) refl (value_digits k (n / 10) ((div-lt_iff_lt-mul (omega arith)).1 (rw (← (pow-suc 10 k)) h)))
  where
    go : (t : Bool) → ltb n 10 ≡ t → value_from 0 (digits_to k (n / 10)) ≡ n / 10
        → value_from 0 (pick t ((digit_zero + n) ∷ []) (digits_to k (n / 10) ++ ((digit_zero + n % 10) ∷ []))) ≡ n
    go true e ih = omega arith
    go false e ih = value_append 0 (digits_to k (n / 10)) _ ∙ rw ih (omega (arith, div-add-mod' n 10))

-- Different numbers are printed differently.
pub decimal_one : (i j : ℕ) → i < 10 ^ number_digits → j < 10 ^ number_digits → decimal i ≡ decimal j → i ≡ j
decimal_one i j h k e = sym (value_digits number_digits i h) ∙ ap (value_from 0) e ∙ value_digits number_digits j k

-- Two ways to cut a list: the longer tail begins with what the other front has more.
cons_same : {x u : ℕ} {xs us : List ℕ} → x ≡ u → xs ≡ us → x ∷ xs ≡ u ∷ us
cons_same c e = rw (c, e)

tail_longer : (xs ys us vs : List ℕ) → xs ++ ys ≡ us ++ vs → length ys < length vs → (w : List ℕ) × (xs ≡ us ++ w) × (vs ≡ w ++ ys)
tail_longer xs ys [] vs e h = (xs, refl, sym e)
tail_longer [] ys (u ∷ us) vs e h = let l : length ys ≡ length ((u ∷ us) ++ vs) = ap length e in absurd (omega (arith, l, length-append us vs))
tail_longer (x ∷ xs) ys (u ∷ us) vs e h =
    let t : xs ++ ys ≡ us ++ vs = cc in let c : x ≡ u = cc in
    let r = tail_longer xs ys us vs t h in (r.0, cons_same c r.1, r.2)

tail_same : (xs ys us vs : List ℕ) → xs ++ ys ≡ us ++ vs → length ys ≡ length vs → ys ≡ vs
tail_same [] ys [] vs e h = e
tail_same [] ys (u ∷ us) vs e h = let l : length ys ≡ length ((u ∷ us) ++ vs) = ap length e in absurd (omega (arith, l, length-append us vs))
tail_same (x ∷ xs) ys [] vs e h = let l : length ((x ∷ xs) ++ ys) ≡ length vs = ap length e in absurd (omega (arith, l, length-append xs ys))
tail_same (x ∷ xs) ys (u ∷ us) vs e h = let t : xs ++ ys ≡ us ++ vs = cc in tail_same xs ys us vs t h

-- A name that ends in a digit's list ends in a digit.
last_right : (xs ys : List ℕ) {a : ℕ} → last_of ys ≡ some a → last_of (xs ++ ys) ≡ some a
unfolding last_of
last_right [] ys e = e
last_right (x ∷ xs) ys e = rw (last_right xs ys e)

ends_in : (us w : List ℕ) → 0 < length w → ((b : ℕ) → b ∈ w → digit b ≡ true) → ends_in_digit (us ++ w) ≡ true
unfolding ends_in_digit
ends_in us [] h d = absurd (omega arith)
ends_in us (x ∷ w) h d = go (last_of (x ∷ w)) refl
  where
    go : (o : Option ℕ) → last_of (x ∷ w) ≡ o → digit (or_default (last_of (us ++ x ∷ w)) 0) ≡ true
    go none e = absurd (last_none (x ∷ w) e (Memᴰ.head refl))
    go (some a) e = rw (last_right us (x ∷ w) e) (d a (last_mem (x ∷ w) e))

not_longer : (xs us : List ℕ) (i j : ℕ) → ends_in_digit xs ≡ false → xs ++ decimal i ≡ us ++ decimal j → length (decimal i) < length (decimal j) → ⊥
not_longer xs us i j n e h =
    let r = tail_longer xs (decimal i) us (decimal j) e h in
    let l : length (decimal j) ≡ length (r.0 ++ decimal i) = ap length r.2 in
    never (rw r.1 (ends_in us r.0 (omega (arith, length-append r.0 (decimal i)))
    (λ b m. digits_only number_digits j b (rw r.2 (Memᴰ.append_left (decimal i) m))))) n

-- A base that ends in no digit, then a number: the name tells the number.
pub name_tells : (xs us : List ℕ) (i j : ℕ) → i < 10 ^ number_digits → j < 10 ^ number_digits → ends_in_digit xs ≡ false → ends_in_digit us ≡ false
    → xs ++ decimal i ≡ us ++ decimal j → i ≡ j
name_tells xs us i j h k n m e = ⊎_elim
    (λ lt. absurd (not_longer xs us i j n e lt))
    (⊎_elim (λ eq. decimal_one i j h k (tail_same xs (decimal i) us (decimal j) e eq)) (λ gt. absurd (not_longer us xs j i m (sym e) gt)))
    (trichotomy (length (decimal i)) (length (decimal j)))
