-- The maps that are still to be walked, by target, then source.
use Rattle.std.specs.Prelude.{List, [], ◌++◌, ◌≡◌, ℕ, zero, suc, ◌-◌, length}
use Rattle.definition.specs.Base.{joined, span}
use Rattle.definition.specs.Rule.{Rule, Kind}
use Rattle.definition.specs.Walk.{State, walk_from, initial_state, walked_kinds}
use Rattle.laws.specs.KindTable.{kinds_of}
use Rattle.rule.specs.Views.{RuleBy}
use Rattle.walk.specs.declared.tables.Tables.{Tables}
use Rattle.walk.specs.Tables.{kind_on}
use Rattle.walk.specs.Walks.{Walking}

-- Those into one structure, from a source on.
unfoldable pub into : Rule → ℕ → ℕ → ℕ → List Kind
into rule n t u = joined (λ (v : ℕ). kinds_of v t (kind_on rule v t)) (span (n - u) u)

-- Those into structure t from source u on, and those into the k structures behind it.
unfoldable pub left_of : Rule → ℕ → ℕ → ℕ → ℕ → List Kind
left_of rule n zero t u = []
left_of rule n (suc k) t u = into rule n t u ++ joined (λ (x : ℕ). into rule n x 0) (span k (suc t))

abbrev pub left : Rule → ℕ → ℕ → List Kind
left rule t u = left_of rule (length rule.structures) (length rule.structures - t) t u

-- The walk under way: the tables have a state from which what is left leads to the whole walk's end.
pub record Going (x : RuleBy) (tb : Tables) (types : List ℕ) (next t u : ℕ) : Type 0 where
  pub state : State
  pub walking : Walking x.rule tb types next t state
  pub rest : walk_from x.sig x.rule (initial_state x.rule) (walked_kinds x.rule) ≡ walk_from x.sig x.rule state (left x.rule t u)
