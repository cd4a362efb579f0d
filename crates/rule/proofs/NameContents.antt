-- What the content of a name's field says.
use Prim.Native.Nat.{ℕ, ◌-◌, ◌*◌, ◌≤◌, ◌<◌}
use native.Mathlib.Omega.{arith}
use mathlib.Core.List.{List, []}
use mathlib.Core.Path.{◌≡◌}
use lib.ListN.{length, get_or, take, drop, drop_of_length-le}
use Rattle.std.proofs.lemmas.List.{get_or_past}
use Rattle.definition.specs.Records.{numbers, number_at}
use Rattle.definition.specs.Rule.{name_of}
use Rattle.laws.proofs.Numbers.{length_numbers}
use Rattle.records.specs.Places.{two_at}
use Rattle.records.proofs.Numbers.{numbers_at}

module _ (count letter : ℕ) (content : List ℕ) (some : 1 ≤ count) where
  pub name_short : length content < 2 * count
      → record { element = 0; name = take 0 content } ≡ name_of count (record { letter = letter; content = content })
  unfolding name_of number_at
  name_short h =
      let n = length_numbers content in
      let a : get_or (numbers content) (count - 1) 0 ≡ 0 = get_or_past (numbers content) (count - 1) 0 (omega arith) in
      let b : drop (2 * count) content ≡ [] = drop_of_length-le content (omega arith) in
      rw (a, b)

  pub name_long : 2 * count ≤ length content
      → record { element = two_at content (2 * count - 2); name = drop (2 * count) content } ≡ name_of count (record { letter = letter; content = content })
  unfolding name_of number_at
  name_long h =
      let e : 2 * (count - 1) ≡ 2 * count - 2 = omega arith in
      rw (numbers_at content (count - 1) (omega arith), e)
