-- The first of some variables.
use Prim.Native.Nat.{ℕ, ◌*◌, ◌/◌, ◌≤◌, ◌<◌, min}
use native.Mathlib.Omega.{arith}
use mathlib.Core.List.{List}
use mathlib.Core.Path.{◌≡◌}
use lib.ListN.{length, take, length-take}
use Rattle.std.proofs.lemmas.List.{get_or-take}
use Rattle.definition.specs.Records.{numbers}
use Rattle.laws.proofs.Numbers.{length_numbers, take_numbers}
use Rattle.group.specs.Lookups.{Named}

module _ (vs : List ℕ) (count : ℕ) where
  pub long_enough : count ≤ length (numbers vs) → 2 * count ≤ length vs
  long_enough h = let n : count ≤ length vs / 2 = rw length_numbers at h in omega arith

  pub taken_long : 2 * count ≤ length vs → 2 * count ≡ length (take (2 * count) vs)
  taken_long h = rw length-take (omega arith)

  pub taken_named : {s : List ℕ} → Named s (numbers vs) → Named s (numbers (take (2 * count) vs))
  taken_named w = rw (← (take_numbers count vs)) (record {
    each = λ i h.
        let n : i < min count (length (numbers vs)) = rw length-take at h in
        let l : i < count = omega arith in
        let m : i < length (numbers vs) = omega arith in
        rw (get_or-take count (numbers vs) i 0 l) (w.each i m);
  })
