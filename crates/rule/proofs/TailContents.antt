-- What the contents of M, K and X fields say.
use Prim.Native.Nat.{ℕ, zero, suc, ◌/◌, ◌≤◌, min}
use native.Mathlib.Omega.{arith}
use mathlib.Core.List.{List, []}
use mathlib.Core.Path.{◌≡◌, refl, sym, ◌∙◌}
use lib.ListN.{length, get_or, drop, drop_of_length-le}
use native.Mathlib.Decide.{dec_le}
use Rattle.std.proofs.lemmas.List.{get_or_past}
use Rattle.definition.specs.Records.{numbers, number_at}
use Rattle.laws.proofs.Numbers.{length_numbers, drop_numbers}
use Rattle.definition.specs.Rule.{pairs_of, If}
use Rattle.rule.specs.Tail.{kinds}

pub no_number : (content : List ℕ) (place : ℕ) → length content / 2 ≤ place → 0 ≡ number_at place content
unfolding number_at
no_number content place h = let n = length_numbers content in sym (get_or_past (numbers content) place 0 (omega arith))

-- What stands behind so many bytes, of which there may be fewer.
pub behind : (content : List ℕ) (k : ℕ) → drop (min (length content) k) content ≡ drop k content
behind content k = go (dec_le k (length content))
  where
    go : Dec (k ≤ length content) → drop (min (length content) k) content ≡ drop k content
    go (yes h) = let e : min (length content) k ≡ k = omega arith in rw e
    go (no h) =
        let e : min (length content) k ≡ length content = omega arith in
        let a : drop (length content) content ≡ [] = drop_of_length-le content (omega arith) in
        let b : drop k content ≡ [] = drop_of_length-le content (omega arith) in
        rw e (a ∙ sym b)

pub pairs_read : (content : List ℕ) → pairs_of (numbers (drop (min (length content) 4) content)) ≡ pairs_of (drop 2 (numbers content))
pairs_read content = rw (behind content 4, drop_numbers 2 content)

-- A kind's byte that is above 3, or 0, stands for If.
pub kind_other : (b : ℕ) → (b ≡ 1 → ⊥) → (b ≡ 2 → ⊥) → (b ≡ 3 → ⊥) → get_or kinds b If ≡ If
kind_other zero a c d = refl
kind_other (suc zero) a c d = absurd (a refl)
kind_other (suc (suc zero)) a c d = absurd (c refl)
kind_other (suc (suc (suc zero))) a c d = absurd (d refl)
kind_other (suc (suc (suc (suc b)))) a c d = refl
