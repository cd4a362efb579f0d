-- Decimal digits, the last one apart.
use Prim.Native.Nat.{ℕ, zero, suc, ◌+◌, ◌-◌, ◌*◌, ◌/◌, ◌%◌, ◌^◌, ◌≤◌, ◌<◌}
use native.Mathlib.Omega.{arith}
use native.Mathlib.Numerals.{add-one}
use mathlib.Core.List.{[], ◌∷◌, ◌++◌}
use mathlib.Core.Path.{◌≡◌}
use lib.ListN.{length, length-append}
use borrow.Author.Tests.{lt-ltb, le-ltb}
use Rattle.definition.specs.Letters.{digit_zero}
use Rattle.definition.specs.Names.{digits_to, decimal}

-- As many digits as a number has are enough.
digits_more : (k n : ℕ) → n < 10 ^ suc k → digits_to (suc k) n ≡ digits_to (suc (suc k)) n
unfolding digits_to
digits_more zero n h = rw (lt-ltb n 10 h)
digits_more (suc k) n h = rw (digits_more k (n / 10) (omega arith))

pub decimal_short : (n : ℕ) → n < 10 → decimal n ≡ (digit_zero + n) ∷ []
unfolding digits_to
decimal_short n h = rw (lt-ltb n 10 h)

pub decimal_long : (n : ℕ) → 10 ≤ n → n < 65536 → decimal n ≡ decimal (n / 10) ++ ((digit_zero + n % 10) ∷ [])
unfolding digits_to
decimal_long n h l = rw (le-ltb n 10 h, digits_more 3 (n / 10) (omega arith))

-- The last digit is what ten times the tenth leaves.
pub decimal_last : (n t : ℕ) → 10 ≤ n → n < 65536 → t ≡ n / 10 → decimal n ≡ decimal t ++ ((digit_zero + (n - t * 10)) ∷ [])
decimal_last n t h l e = rw (e, remainder) (decimal_long n h l)
  where
    remainder : n - n / 10 * 10 ≡ n % 10
    remainder = omega arith

-- How many digits a number has: one more than its tenth.
pub one_digit : (n : ℕ) → n < 10 → length (decimal n) ≡ 1
one_digit n h = rw (decimal_short n h)

pub digits_many : (k n : ℕ) → 10 ^ suc k ≤ n → n < 10 ^ suc (suc k) → n < 65536 → length (decimal n) ≡ suc (suc k)
digits_many zero n h l b = rw (decimal_long n (omega arith) b, length-append, one_digit (n / 10) (omega arith))
digits_many (suc k) n h l b = rw (decimal_long n (omega arith) b, length-append, digits_many k (n / 10) (omega arith) (omega arith) (omega arith), add-one)
