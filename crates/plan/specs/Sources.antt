-- Sources that were found, and what has none.
use Rattle.std.specs.Prelude.{ℕ, Bool, List, not, Option, Some, None}
use Rattle.std.proofs.Math.Option as definition
use Rattle.std.proofs.Math.Option.{none, some}
use Rattle.definition.specs.Base.{given}
use Rattle.definition.specs.Rule.{Map, Kind, Auxiliary}
use Rattle.definition.specs.Walk.{incoming_source, pairs_between}

-- A source that was found, as the definition's.
abbrev pub source_is : Option ℕ → definition.Option ℕ
source_is (Some u) = some u
source_is None = none

-- An auxiliary without a map into its structure.
abbrev pub no_source : List Map → Auxiliary → Bool
no_source maps x = not (given (incoming_source maps x.structure))

-- A kind of a pair without a map.
abbrev pub no_map : List Map → Kind → Bool
no_map maps k = not (given (pairs_between maps k.source k.target))
