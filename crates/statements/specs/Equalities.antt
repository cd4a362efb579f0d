-- Equalities of the variables of keys.
use Rattle.std.specs.Prelude.{List, [], ◌∷◌, ◌++◌, ℕ, ◌≤◌, ◌<◌, length, get_or}
use Rattle.definition.specs.Base.{each, joined, ◌∈◌}
use Rattle.definition.specs.Letters.{equality}
use Rattle.definition.specs.Group.{Statement}
use Rattle.definition.specs.Kinds.{Side, variable_in}
use Rattle.definition.specs.Limits.{field_limit}
use Rattle.definition.specs.Names.{fiber}
use Rattle.definition.specs.Rule.{Pair}

-- The Equality of two variables; its type is the first one's.
unfoldable pub equality_of : List ℕ → ℕ → ℕ → Statement
equality_of types v w = record { kind = equality; symbol = get_or types v 0; variables = v ∷ w ∷ [] }

-- The Equalities of two of several variables, each with those behind it.
unfoldable pub equalities_among : List ℕ → List ℕ → List Statement
equalities_among types [] = []
equalities_among types (v ∷ vs) = each (equality_of types v) vs ++ equalities_among types vs

-- Those of the keys of each image, by the target's elements.
unfoldable pub equalities_over : (ℕ → ℕ) → List Pair → List ℕ → List ℕ → List Statement
equalities_over variable pairs types els = joined (λ (e : ℕ). equalities_among types (each variable (fiber pairs e))) els

-- Variables, no more than a structure has elements, each of which has a place in the table of types.
pub record TypedVars (vars : List ℕ) (size : ℕ) : Type 0 where
  pub few : length vars ≤ field_limit
  pub below : (i : ℕ) → i < length vars → get_or vars i 0 < size

-- The variables of a map's keys have places in that table.
pub record KeysTyped (source : Side) (pairs : List Pair) (size : ℕ) : Type 0 where
  pub below : (p : Pair) → p ∈ pairs → variable_in source p.key < size
