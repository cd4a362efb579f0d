-- Masks: what is flagged is what a test keeps.
use Prim.Native.Nat.{ℕ, suc, ◌+◌, ◌-◌, ◌≤◌, ◌<◌}
use native.Mathlib.Omega.{arith}
use native.Mathlib.Decide.{ℕ_discrete}
use native.Mathlib.Nat.{add-zero}
use mathlib.Core.Bool.{Bool, true, false}
use mathlib.Core.List.{List, [], ◌∷◌}
use mathlib.Core.Path.{◌≡◌, refl, sym, ◌∙◌}
use lib.ListN.{length, get_or}
use Rattle.definition.specs.Base.{cons_if, keep, each}
use Rattle.flags.specs.declared.Mask.{Mask}
use Rattle.flags.specs.Flags.{places, flag_at, no_flags, only_flag, Packed}
use Rattle.flags.proofs.Words.{no_flag, one_flag, other_flag}
use Rattle.statements.specs.Said.{flagged_from, flagged}

module _ {A : Type 0} (mask : Mask) (f : A → Bool) where
  flagged_from_lem : (i : ℕ) (xs : List A) → ((j : ℕ) → j < length xs → flag_at mask (i + j) ≡ get_or (each f xs) j false) → flagged_from mask i xs ≡ keep f xs
  unfolding flagged_from keep each
  flagged_from_lem i [] h = refl
  flagged_from_lem i (x ∷ xs) h =
      let a : flag_at mask i ≡ f x = rw (add-zero i) at (h 0 (omega arith)) in
      let b : flagged_from mask (i + 1) xs ≡ keep f xs =
      flagged_from_lem (i + 1) xs (λ j l. let e : i + 1 + j ≡ i + suc j = omega arith in rw e (h (suc j) (omega arith))) in
      rw (a, b)

  -- Flags that agree with a test flag what it keeps.
  pub flagged_keep : (xs : List A) → ((j : ℕ) → j < length xs → flag_at mask j ≡ get_or (each f xs) j false) → flagged mask xs ≡ keep f xs
  flagged_keep xs h = flagged_from_lem 0 xs (λ j l. let e : 0 + j ≡ j = omega arith in rw e (h j l))

  pub packed_keep : (xs : List A) → Packed mask (each f xs) (length xs) → flagged mask xs ≡ keep f xs
  packed_keep xs p = flagged_keep xs p.flags.same

-- Without a flag none is flagged.
none_from : {A : Type 0} (i : ℕ) (xs : List A) → flagged_from no_flags i xs ≡ []
unfolding flagged_from
none_from i [] = refl
none_from i (x ∷ xs) = rw (no_flag i, none_from (i + 1) xs)

pub none_flagged : {A : Type 0} (xs : List A) → flagged no_flags xs ≡ []
none_flagged xs = none_from 0 xs

-- One flag flags one.
module _ {A : Type 0} (d : A) (i : ℕ) (few : i < places) where
  behind : (k : ℕ) → i < k → (xs : List A) → flagged_from (only_flag i) k xs ≡ []
  unfolding flagged_from
  behind k h [] = refl
  behind k h (x ∷ xs) = rw (other_flag i few k (λ e. omega arith), behind (k + 1) (omega arith) xs)

  one_from : (k : ℕ) (xs : List A) → k ≤ i → i < k + length xs → flagged_from (only_flag i) k xs ≡ get_or xs (i - k) d ∷ []
  unfolding flagged_from
  one_from k [] l h = absurd (omega arith)
  one_from k (x ∷ xs) l h = go (ℕ_discrete k i) (λ q. one_from (k + 1) xs q (omega arith))
    where
      go : Dec (k ≡ i) → (k + 1 ≤ i → flagged_from (only_flag i) (k + 1) xs ≡ get_or xs (i - (k + 1)) d ∷ [])
          → cons_if (flag_at (only_flag i) k) x (flagged_from (only_flag i) (k + 1) xs) ≡ get_or (x ∷ xs) (i - k) d ∷ []
      go (yes q) r = let z : i - k ≡ 0 = omega arith in let f : flag_at (only_flag i) k ≡ true = rw q (one_flag i few) in
          rw (f, behind (k + 1) (omega arith) xs, z)
      go (no q) r = let z : i - k ≡ suc (i - (k + 1)) = omega arith in rw (other_flag i few k (λ e. q (sym e)), r (omega arith), z)

  pub one_flagged : (xs : List A) → i < length xs → flagged (only_flag i) xs ≡ get_or xs i d ∷ []
  one_flagged xs h = let z : i - 0 ≡ i = omega arith in one_from 0 xs (omega arith) (omega arith) ∙ rw z
