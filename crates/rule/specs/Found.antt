-- A map that was looked for.
use Rattle.std.specs.Prelude as std
use Rattle.std.specs.Prelude.{Some, None, List, ◌≡◌, ℕ}
use Rattle.std.proofs.Math.Option.{Option, none, some}
use Rattle.definition.specs.Rule.{Rule, Pair}
use Rattle.rule.specs.Map.{pairs_from}
use Rattle.rule.specs.Views.{Joined}
use Rattle.rule.specs.declared.map.Map.{Map}

-- As the definition's.
abbrev pub found_pairs : std.Option Map → Option (List Pair)
found_pairs (Some m) = some (pairs_from m)
found_pairs None = none

-- A map that was found joins the two structures.
abbrev JoinsIf : std.Option Map → Rule → ℕ → ℕ → Type 0
JoinsIf (Some m) rule source target = Joined rule source target (pairs_from m)
JoinsIf None rule source target = Unit

pub record Joins (r : std.Option Map) (rule : Rule) (source target : ℕ) : Type 0 where
  pub is : JoinsIf r rule source target
