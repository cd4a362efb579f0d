-- What the pairs of a map name.
use Rattle.std.specs.Prelude.{ℕ, List}
use Rattle.definition.specs.Base.{◌∈◌}
use Rattle.definition.specs.Names.{numbers_of}
use Rattle.definition.specs.Rule.{Structure, Pair}

-- The keys are elements of the source.
pub record KeysIn (els : List ℕ) (pairs : List Pair) : Type 0 where
  pub named : (p : Pair) → p ∈ pairs → p.key ∈ els

-- The images are elements of the target.
pub record ImagesIn (target : Structure) (pairs : List Pair) : Type 0 where
  pub named : (p : Pair) → p ∈ pairs → p.image ∈ numbers_of target
