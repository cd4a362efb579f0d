-- A map between two structures of a rule.
use Rattle.std.specs.Prelude.{List, ℕ}
use Rattle.std.proofs.Math.Option.{Option}
use Rattle.definition.specs.Base.{◌∈◌}
use Rattle.definition.specs.Names.{carried}
use Rattle.definition.specs.Rule.{Element, Pair}
use Rattle.rule.specs.Views.{listed_numbers}
use Rattle.rows.specs.Morphisms.{MorphismBy}
use Rattle.naming.specs.Variables.{bare, variables_in}

-- What the target's elements take over, where the source's variables stand in a row.
abbrev pub taken_over : List ℕ → MorphismBy → List (Option ℕ)
taken_over row m = carried m.source (variables_in m.source row) m.pairs m.target

-- The same, by the elements of both structures.
abbrev pub taken_between : List ℕ → List Element → List Element → List Pair → List (Option ℕ)
taken_between row source target pairs = carried (bare source) (variables_in (bare source) row) pairs (bare target)

-- The keys are elements of the source, and the images elements of the target.
pub record Joins (source target : List Element) (pairs : List Pair) : Type 0 where
  pub keys : (p : Pair) → p ∈ pairs → p.key ∈ listed_numbers source
  pub images : (p : Pair) → p ∈ pairs → p.image ∈ listed_numbers target
