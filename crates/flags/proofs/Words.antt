-- The laws of masks, all that is known of them outside: none, all, one more above all others, those of a test, one. Each comes down to
-- the digits of the word.
use Prim.Native.Nat.{ℕ, ◌+◌, ◌≤◌, ◌<◌}
use native.Mathlib.Omega.{arith}
use native.Mathlib.Decide.{ℕ_discrete}
use mathlib.Core.Path.{◌≡◌, refl, ◌∙◌}
use mathlib.Core.Bool.{Bool, true, false}
use lib.Dec.{ltb}
use borrow.Author.Tests.{eqb-true, ltb-true, ltb-false}
use Rattle.flags.specs.declared.Mask.{Mask}
use Rattle.flags.specs.Flags.{places, flag_at, no_flags, all_flags, none_set, with_flag, only_flag, Above, FlagsOf}
use Rattle.flags.proofs.Bits.{pow_pos, no_digit, all_digit, bit_new, bit_old, bit_above, small_set, small_clear}

-- No flag is set in none.
pub no_flag : (i : ℕ) → flag_at no_flags i ≡ false
unfolding flag_at
no_flag i = no_digit i

pub above_none : (i : ℕ) → Above no_flags i
above_none i = record { small = pow_pos i }

module _ (mask : Mask) (i : ℕ) (few : i < places) (a : Above mask i) where
  -- The next place is above it.
  pub above_set : Above (with_flag mask i) (i + 1)
  unfolding with_flag
  above_set = record { small = small_set mask.word i a.small }

  pub above_clear : Above mask (i + 1)
  above_clear = record { small = small_clear mask.word i a.small }

  -- The new flag is set, those below are as they were, and it was not set before.
  pub flag_new : flag_at (with_flag mask i) i ≡ true
  unfolding flag_at with_flag
  flag_new = rw (bit_new mask.word i a.small)

  pub flag_old : (j : ℕ) → j < i → flag_at (with_flag mask i) j ≡ flag_at mask j
  unfolding flag_at with_flag
  flag_old j h = rw (bit_old mask.word i a.small j h)

  pub flag_above : flag_at mask i ≡ false
  unfolding flag_at
  flag_above = rw (bit_above mask.word i a.small i (omega arith))

-- The flags by a test, one place after the other.
pub flags_start : (test : ℕ → Bool) → FlagsOf no_flags test 0
flags_start test = record { above = above_none 0; same = λ i h. absurd (omega arith) }

module _ {mask : Mask} {i : ℕ} {test : ℕ → Bool} (p : FlagsOf mask test i) (few : i < places) where
  pub flags_set : test i ≡ true → FlagsOf (with_flag mask i) test (i + 1)
  flags_set e = record { above = above_set mask i few p.above; same = λ j h. go j h (ℕ_discrete j i) }
    where
      go : (j : ℕ) → j < i + 1 → Dec (j ≡ i) → flag_at (with_flag mask i) j ≡ test j
      go j h (yes q) = rw (q, flag_new mask i few p.above, e)
      go j h (no q) = rw (flag_old mask i few p.above j (omega arith)) (p.same j (omega arith))

  pub flags_clear : test i ≡ false → FlagsOf mask test (i + 1)
  flags_clear e = record { above = above_clear mask i few p.above; same = λ j h. go j h (ℕ_discrete j i) }
    where
      go : (j : ℕ) → j < i + 1 → Dec (j ≡ i) → flag_at mask j ≡ test j
      go j h (yes q) = rw (q, flag_above mask i few p.above, e)
      go j h (no q) = p.same j (omega arith)

-- No flag is set from a place on that is above all.
pub above_no_flag : {mask : Mask} {i : ℕ} → Above mask i → (j : ℕ) → i ≤ j → flag_at mask j ≡ false
unfolding flag_at
above_no_flag {mask} {i} a j h = rw (bit_above mask.word i a.small j h)

-- Where none is set no flag is.
pub none_no_flag : (mask : Mask) → none_set mask ≡ true → (i : ℕ) → flag_at mask i ≡ false
unfolding none_set flag_at
none_no_flag mask e i = rw (eqb-true mask.word 0 e) (no_digit i)

-- The one flag of a place.
module _ (i : ℕ) (few : i < places) where
  pub one_flag : flag_at (only_flag i) i ≡ true
  unfolding only_flag
  one_flag = flag_new no_flags i few (above_none i)

  pub other_flag : (j : ℕ) → (i ≡ j → ⊥) → flag_at (only_flag i) j ≡ false
  unfolding only_flag
  other_flag j h = go (ltb j i) refl
    where
      go : (b : Bool) → ltb j i ≡ b → flag_at (with_flag no_flags i) j ≡ false
      go true q = flag_old no_flags i few (above_none i) j (ltb-true j i q) ∙ no_flag j
      go false q = let l = ltb-false j i q in let n : i + 1 ≤ j = omega (arith, h) in above_no_flag (above_set no_flags i few (above_none i)) j n

  pub one_some : none_set (only_flag i) ≡ false
  one_some = go (none_set (only_flag i)) refl
    where
      go : (b : Bool) → none_set (only_flag i) ≡ b → b ≡ false
      go false q = refl
      go true q = let a = none_no_flag (only_flag i) q i in let b = one_flag in let z : ◌≡◌ {A = ℕ} 0 1 = cc in absurd (omega arith)

pub no_flags_none : none_set no_flags ≡ true
unfolding none_set
no_flags_none = refl

-- Every flag is set in all.
pub all_flag : (i : ℕ) → i < places → flag_at all_flags i ≡ true
unfolding flag_at
all_flag i few = all_digit i few
