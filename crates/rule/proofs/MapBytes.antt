-- A map of an accepted rule: its pairs in its bytes, and its keys, which ascend.
use Prim.Native.Nat.{ℕ, ◌+◌, ◌*◌, ◌/◌, ◌≤◌, ◌<◌}
use native.Mathlib.Omega.{arith}
use mathlib.Core.List.{List}
use mathlib.Core.Option.{none, some}
use mathlib.Core.Path.{◌≡◌, sym, ◌∙◌}
use lib.ListN.{length, get_or}
use Rattle.definition.specs.Records.{numbers}
use Rattle.definition.specs.Rule.{Pair}
use Rattle.definition.specs.Rows.{image_of}
use Rattle.laws.proofs.Numbers.{length_numbers}
use Rattle.records.specs.Places.{two_at}
use Rattle.records.proofs.Numbers.{numbers_at}
use Rattle.rule.proofs.MapLaws.{ascend_at, image_none, image_some}
use Rattle.rule.proofs.PairLaws.{pairs_length, pairs_get}
use Rattle.rule.specs.Pairs.{pairs_in_bytes, no_pair, FewAscending}
use Rattle.rule.specs.Search.{KeysAre, Places}
use Rattle.std.proofs.Common.{Some, None}

module _ (bytes : List ℕ) {pairs : List Pair} (e : pairs_in_bytes bytes ≡ pairs) where
  pub pairs_count : length bytes / 4 ≡ length pairs
  unfolding pairs_in_bytes
  pairs_count = let n = pairs_length (numbers bytes) in let m = length_numbers bytes in rw (← e) (omega arith)

  module _ (p : ℕ) (h : p < length pairs) where
    pub pair_inside : 4 * p + 4 ≤ length bytes
    pair_inside = let n = pairs_count in omega arith

    pair_is : get_or pairs p no_pair ≡ record { key = two_at bytes (4 * p); image = two_at bytes (4 * p + 2) }
    unfolding pairs_in_bytes
    pair_is =
        let n = pairs_count in
        let m = length_numbers bytes in
        let a : 2 * (2 * p) ≡ 4 * p = omega arith in
        let b : 2 * (2 * p + 1) ≡ 4 * p + 2 = omega arith in
        rw (← e) (pairs_get (numbers bytes) p (omega arith) ∙ rw (numbers_at bytes (2 * p) (omega arith), numbers_at bytes (2 * p + 1) (omega arith), a, b))

    pub key_at_is : two_at bytes (4 * p) ≡ (get_or pairs p no_pair).key
    key_at_is = rw pair_is

    pub image_at_is : two_at bytes (4 * p + 2) ≡ (get_or pairs p no_pair).image
    image_at_is = rw pair_is

-- The keys, by what is told of each place.
module _ {pairs : List Pair} (w : FewAscending pairs) where
  abbrev key_at : ℕ → ℕ
  key_at p = (get_or pairs p no_pair).key

  pub map_keys : {told : ℕ → ℕ → Type 0} → ((p x : ℕ) → p < length pairs → told p x → x ≡ key_at p) → KeysAre told (length pairs) key_at
  map_keys tell = record { tell = tell; ascend = λ i j l k. ascend_at pairs w.ascend i j l k }

  module _ {e : ℕ} where
    pub key_found : {p : ℕ} → Places (Some p) (length pairs) e key_at → some (get_or pairs p no_pair).image ≡ image_of pairs e
    key_found {p} q = sym (image_some pairs w.ascend e p q.is.0 q.is.1)

    pub no_key : Places None (length pairs) e key_at → none ≡ image_of pairs e
    no_key q = sym (image_none pairs e q.is)
