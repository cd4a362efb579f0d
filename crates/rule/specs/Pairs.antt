-- Pairs of a key and an image, as the bytes of a map have them.
use Rattle.std.specs.Prelude as std
use Rattle.std.specs.Prelude.{Some, None, ℕ, true, List, ◌≤◌, ◌≡◌, length}
use Rattle.std.proofs.Math.Option.{Option, none, some}
use Rattle.definition.specs.Limits.{field_limit}
use Rattle.definition.specs.Records.{numbers}
use Rattle.definition.specs.Rule.{Pair, pairs_of, keys_ascend}
use Rattle.rule.specs.declared.ids.ElId.{ElId}

unfoldable pub pairs_in_bytes : List ℕ → List Pair
pairs_in_bytes bytes = pairs_of (numbers bytes)

-- Stands where there is none.
abbrev pub no_pair : Pair
no_pair = record { key = 0; image = 0 }

-- At most as many as a structure's elements, and the keys ascend.
pub record FewAscending (pairs : List Pair) : Type 0 where
  pub few : length pairs ≤ field_limit
  pub ascend : keys_ascend pairs ≡ true

-- An image as the definition's.
abbrev pub image_is : std.Option ElId → Option ℕ
image_is (Some e) = some e.0
image_is None = none
