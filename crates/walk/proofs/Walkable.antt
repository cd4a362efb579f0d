-- A map that can be walked: what the laws of one step take.
use Prim.Native.Nat.{ℕ, ◌≤◌, ◌<◌}
use mathlib.Core.List.{List}
use mathlib.Core.Path.{◌≡◌}
use lib.ListN.{length}
use Rattle.definition.specs.Limits.{field_limit}
use Rattle.definition.specs.Walk.{structure_at}
use Rattle.rows.specs.Morphisms.{Between}
use Rattle.rule.specs.Views.{RuleBy}
use Rattle.walk.specs.declared.tables.Tables.{Tables}
use Rattle.walk.specs.Tables.{unreached, source_at, Keyed}
use Rattle.walk.specs.Went.{Visit, Met, GoingTo}

-- The walk has come to a map: its source was reached, and its target was not.
pub record Walkable (x : RuleBy) (tb : Tables) (types : List ℕ) (v : Visit) : Type 0 where
  pub keyed : Keyed x.rule
  pub elements_few : length (structure_at x.rule v.target).elements ≤ field_limit
  pub met : Met x v
  pub between : Between v.morphism
  pub going : GoingTo x tb types v
  pub reached : source_at tb v.source < unreached
  pub free : source_at tb v.target ≡ unreached
