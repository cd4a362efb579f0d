-- The state that the walk over an accepted rule ends in.
use Rattle.std.specs.Prelude.{List, ◌≡◌, ℕ, ◌≤◌, ◌<◌, length}
use Rattle.definition.specs.Limits.{variable_limit}
use Rattle.definition.specs.Rule.{Rule}
use Rattle.definition.specs.Walk.{State, group_name, named_rules}
use Rattle.rows.specs.Kernel.{TypesOf}
use Rattle.walk.specs.declared.tables.Tables.{Tables}
use Rattle.walk.specs.Tables.{unreached, source_at, news_to, emitted_to}
use Rattle.walk.specs.Walks.{Ties}

-- The state at the end of the walk, as the tables have it.
pub record Ended (rule : Rule) (tb : Tables) (types : List ℕ) (state : State) : Type 0 where
  pub ties : Ties state.variables rule tb state.slots
  pub first_reached : source_at tb 0 < unreached
  pub variables : state.variables ≡ news_to rule tb (length rule.structures)
  pub rules : state.rules ≡ named_rules (group_name rule) 0 (emitted_to state.variables rule tb state.slots (length rule.structures))
  pub few : length state.variables ≤ variable_limit
  pub types_are : TypesOf state.variables types
  pub types_long : length state.variables ≤ length types

-- A structure that the walk reached.
pub record Reaching (rule : Rule) (tb : Tables) (t : ℕ) : Type 0 where
  pub inside : t < length rule.structures
  pub reached : source_at tb t < unreached
