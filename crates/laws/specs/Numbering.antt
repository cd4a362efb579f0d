-- The numbering of a structure's elements.
use Rattle.std.specs.Prelude.{List, [], ◌∷◌, ℕ, ◌+◌}
use Rattle.std.proofs.Math.Option.{Option, none, some}

-- How many elements take nothing over.
unfoldable pub fresh : List (Option ℕ) → ℕ
fresh [] = 0
fresh (some v ∷ cs) = fresh cs
fresh (none ∷ cs) = 1 + fresh cs
