-- What the new variables ask of a rule's bytes and index, and of the sources in the tables.
use Rattle.std.specs.Prelude.{ℕ, List, ◌≡◌, ◌≤◌, ◌<◌, Option, Some, None, length, get_or}
use Rattle.definition.specs.Limits.{structure_limit}
use Rattle.rule.specs.Lookup.{rule_at}
use Rattle.rule.specs.Structures.{Laid}

-- The structures are few, and the index has the elements and the names of each; each source in the table is a structure.
pub record Numbered (bytes index : List ℕ) (sources : List (Option ℕ)) : Type 0 where
  pub laid : (k : ℕ) → k < length (rule_at bytes).structures → Laid bytes index k
  pub few : length (rule_at bytes).structures ≤ structure_limit
  pub small : (t u : ℕ) → get_or sources t None ≡ Some u → u < structure_limit
