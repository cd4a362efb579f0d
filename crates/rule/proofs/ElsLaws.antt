-- Lists of elements: one, and the parts.
use Prim.Native.Nat.{ℕ, ◌*◌, ◌<◌}
use native.Mathlib.Omega.{arith}
use mathlib.Core.List.{List}
use mathlib.Core.Path.{◌≡◌, sym}
use lib.ListN.{length, get_or, take, drop}
use Rattle.definition.specs.Records.{numbers}
use Rattle.laws.proofs.Numbers.{drop_numbers, take_numbers, length_numbers}
use Rattle.records.specs.Places.{two_at}
use Rattle.records.proofs.Numbers.{numbers_at}

pub el_is : (s : List ℕ) (i : ℕ) → i < length (numbers s) → two_at s (2 * i) ≡ get_or (numbers s) i 0
el_is s i h = let n = length_numbers s in sym (numbers_at s i (omega arith))

pub els_behind : (s : List ℕ) (n : ℕ) → numbers (drop (2 * n) s) ≡ drop n (numbers s)
els_behind s n = sym (drop_numbers n s)

pub els_first : (s : List ℕ) (n : ℕ) → numbers (take (2 * n) s) ≡ take n (numbers s)
els_first s n = sym (take_numbers n s)
