-- The walk's state as the tables have it.
use Rattle.std.specs.Prelude.{List, ◌++◌, ◌≡◌, ℕ, suc, ◌*◌, ◌≤◌, ◌<◌, length, get_or}
use Rattle.std.proofs.Math.Option.{Option, none, some}
use Rattle.definition.specs.Limits.{structure_limit, field_limit}
use Rattle.definition.specs.Rule.{Rule}
use Rattle.definition.specs.Group.{Variable}
use Rattle.definition.specs.Walk.{Reached, State, group_name, named_rules, structure_at}
use Rattle.rows.specs.Kernel.{TypesOf, Merged}
use Rattle.naming.specs.Variables.{variables_in, GivenOut}
use Rattle.walk.specs.declared.tables.Tables.{Tables}
use Rattle.walk.specs.Tables.{SmallSources, unreached, source_at, row_at, merged_at, pairs_on, own_at, before, news_to, emitted_to}

-- A structure that was reached: its source is below it and was reached, its variables were given out, its elements that are images of
-- several keys are flagged, and its statements are those of its source and its own.
pub record ReachedAt (table : List Variable) (rule : Rule) (tb : Tables) (slots : List (Option Reached)) (k : ℕ) (r : Reached) : Type 0 where
  pub source_in : source_at tb k < unreached
  pub source_down : 0 < k → source_at tb k < k
  pub source_reached : source_at tb (source_at tb k) < unreached
  pub row_long : length r.variables ≡ length (structure_at rule k).elements
  pub variables : r.variables ≡ variables_in (structure_at rule k) (row_at tb k)
  pub given : GivenOut (structure_at rule k) (row_at tb k) (length table)
  pub merged : 0 < k → Merged (merged_at tb k) (structure_at rule k) (pairs_on rule (source_at tb k) k)
  pub statements : r.statements ≡ before slots tb k ++ own_at table rule tb k

abbrev pub Tie : List Variable → Rule → Tables → List (Option Reached) → ℕ → Option Reached → Type 0
Tie table rule tb slots k none = source_at tb k ≡ unreached
Tie table rule tb slots k (some r) = ReachedAt table rule tb slots k r

-- The tables have a place for each structure, and say of each what its slot says.
pub record Ties (table : List Variable) (rule : Rule) (tb : Tables) (slots : List (Option Reached)) : Type 0 where
  pub few : length rule.structures ≤ structure_limit
  pub sources_small : SmallSources tb
  pub sources_long : length tb.sources ≡ structure_limit
  pub masks_long : length tb.masks ≡ structure_limit
  pub vars_long : length tb.vars ≡ structure_limit
  pub slots_long : length slots ≡ length rule.structures
  pub each_one : (k : ℕ) → k < length rule.structures → Tie table rule tb slots k (get_or slots k none)
  pub others : (k : ℕ) → length rule.structures ≤ k → source_at tb k ≡ unreached

-- The state of the walk while the maps into structure t are walked.
pub record Walking (rule : Rule) (tb : Tables) (types : List ℕ) (next t : ℕ) (state : State) : Type 0 where
  pub ties : Ties state.variables rule tb state.slots
  pub first_reached : source_at tb 0 < unreached
  pub above : (k : ℕ) → t < k → source_at tb k ≡ unreached
  pub variables : state.variables ≡ news_to rule tb (suc t)
  pub rules : state.rules ≡ named_rules (group_name rule) 0 (emitted_to state.variables rule tb state.slots (suc t))
  pub next_is : next ≡ length state.variables
  pub few : next ≤ field_limit * suc t
  pub fewer : source_at tb t ≡ unreached → next ≤ field_limit * t
  pub types_are : TypesOf state.variables types
  pub types_long : field_limit * length rule.structures ≤ length types
