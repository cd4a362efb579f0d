-- Binary digits of a number below a power of two, and of that number with the power added.
use Prim.Native.Nat.{ℕ, zero, suc, ◌+◌, ◌*◌, ◌/◌, ◌%◌, ◌^◌, ◌≤◌, ◌<◌}
use native.Mathlib.Omega.{arith}
use native.Mathlib.Decide.{ℕ_discrete}
use native.Mathlib.Nat.{pow-suc, pow-le-pow_right, div-eq_of_lt, add-mul-div_left, add-mul-mod_self_left, add-div_right, pow-zero, mul_assoc}
use native.Mathlib.Nat.{mul_comm, mod-eq_of_lt}
use mathlib.Core.Path.{◌≡◌, refl, ◌∙◌}
use mathlib.Core.Bool.{Bool, true, false, ◌&&◌}
use Rattle.flags.specs.Flags.{digit_at}

pub pow_pos : (i : ℕ) → 0 < 2 ^ i
pow_pos zero = rw pow-zero (omega arith)
pow_pos (suc i) = let r = pow_pos i in rw pow-suc (omega arith)

-- A power below another fits in it twice.
pow_split : (i j : ℕ) → j < i → (k : ℕ) × (2 ^ i ≡ 2 ^ j * (2 * k))
pow_split zero j h = absurd (omega arith)
pow_split (suc i) j h = go (ℕ_discrete j i) (λ l. pow_split i j l)
  where
    go : Dec (j ≡ i) → (j < i → (k : ℕ) × (2 ^ i ≡ 2 ^ j * (2 * k))) → (k : ℕ) × (2 ^ suc i ≡ 2 ^ j * (2 * k))
    go (yes q) ih = (1, pow-suc 2 i ∙ rw q)
    go (no q) ih = let r = ih (omega arith) in (2 * r.0, pow-suc 2 i ∙ rw (r.1, mul_assoc, mul_comm (2 * r.0) 2))

pub pow_twice : (i j : ℕ) → i < j → 2 ^ i + 2 ^ i ≤ 2 ^ j
pow_twice i j h = let r : 2 ^ suc i ≤ 2 ^ j = pow-le-pow_right (omega arith) h in let e = pow-suc 2 i in omega arith

module _ (mask i : ℕ) (small : mask < 2 ^ i) where
  -- The new digit is set,
  pub bit_new : (mask + 2 ^ i) / 2 ^ i ≡ 1
  bit_new = add-div_right mask (pow_pos i) ∙ rw (div-eq_of_lt small)

  -- those below it are as they were,
  pub bit_old : (j : ℕ) → j < i → (mask + 2 ^ i) / 2 ^ j % 2 ≡ mask / 2 ^ j % 2
  bit_old j h = let r = pow_split i j h in rw (r.1, add-mul-div_left mask (2 * r.0) (pow_pos j), add-mul-mod_self_left (mask / 2 ^ j) 2 r.0)

  -- and those above are none.
  pub bit_above : (j : ℕ) → i ≤ j → mask / 2 ^ j ≡ 0
  bit_above j h = div-eq_of_lt (below j h)
    where
      below : (j : ℕ) → i ≤ j → mask < 2 ^ j
      below j h = let r : 2 ^ i ≤ 2 ^ j = pow-le-pow_right (omega arith) h in omega arith

  -- Both are below the next power.
  pub small_set : mask + 2 ^ i < 2 ^ (i + 1)
  small_set = let r = pow_twice i (i + 1) (omega arith) in omega arith

  pub small_clear : mask < 2 ^ (i + 1)
  small_clear = let r = pow_twice i (i + 1) (omega arith) in omega arith

-- A power of two below 64 fits into 64 bits.
pub pow_fits : (i : ℕ) → i < 64 → 2 ^ i + 2 ^ i ≤ 2 ^ 64
pow_fits i h = pow_twice i 64 h

-- No flag is set in 0.
pub no_digit : (i : ℕ) → digit_at 0 i ≡ false
no_digit i = rw (div-eq_of_lt (pow_pos i))

-- Each of 64 digits is set in the greatest word.
abbrev digits_to : ℕ → Bool
digits_to zero = true
digits_to (suc n) = digit_at 18446744073709551615 n && digits_to n

digits_below : (n : ℕ) → digits_to n ≡ true → (i : ℕ) → i < n → digit_at 18446744073709551615 i ≡ true
digits_below zero e i h = absurd (omega arith)
digits_below (suc n) e i h = go (ℕ_discrete i n) (λ d l. digits_below n d i l)
  where
    left : (a b : Bool) → (a && b) ≡ true → a ≡ true
    left true b e = refl
    left false b e = e

    right : (a b : Bool) → (a && b) ≡ true → b ≡ true
    right true b e = e
    right false b e = let z : ◌≡◌ {A = ℕ} 0 1 = cc in absurd (omega arith)

    go : Dec (i ≡ n) → (digits_to n ≡ true → i < n → digit_at 18446744073709551615 i ≡ true) → digit_at 18446744073709551615 i ≡ true
    go (yes q) r = rw q (left _ _ e)
    go (no q) r = r (right (digit_at 18446744073709551615 n) _ e) (omega arith)

pub all_digit : (i : ℕ) → i < 64 → digit_at 18446744073709551615 i ≡ true
all_digit i h = digits_below 64 refl i h

-- One shifted by a place of 64.
pub shift_is : (i : ℕ) → i < 64 → 1 * 2 ^ i % 18446744073709551616 ≡ 2 ^ i
shift_is i h = let f = pow_fits i h in let p = pow_pos i in let e : 1 * 2 ^ i ≡ 2 ^ i = omega arith in rw e (mod-eq_of_lt (omega arith))
