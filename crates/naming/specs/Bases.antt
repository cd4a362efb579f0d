-- What a search for a name says.
use Rattle.std.specs.Prelude.{List, ℕ, ◌≤◌, length, Option, Some, None}
use Rattle.std.proofs.Math.Option as definition
use Rattle.std.proofs.Math.Option.{none, some}
use Rattle.std.proofs.Common.{Bor}
use Rattle.definition.specs.Base.{or_else, or_default, first_of, ◌∈◌}
use Rattle.definition.specs.Limits.{name_bytes}
use Rattle.definition.specs.Names.{name_for, el}
use Rattle.definition.specs.Rule.{Name}

-- The bytes of a name that was found.
abbrev pub name_is : Option (Bor (List ℕ)) → definition.Option (List ℕ)
name_is (Some name) = some name.now
name_is None = none

-- The base of an element's name, by the V and the I names of its structure.
abbrev pub base_in : List Name → List Name → ℕ → List ℕ
base_in variables identifiers e = or_default (or_else (first_of (name_for e) variables) (first_of (name_for e) identifiers)) el

-- Names of a permitted length.
pub record Short (names : List Name) : Type 0 where
  pub few : (n : Name) → n ∈ names → length n.name ≤ name_bytes
