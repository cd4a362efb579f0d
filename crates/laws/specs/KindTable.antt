-- The walked kinds as a table: at each pair of structures one kind or none.
use Rattle.std.specs.Prelude.{false, List, [], ◌∷◌, ◌≡◌, ℕ}
use Rattle.std.proofs.Math.Option.{Option, none, some}
use Rattle.definition.specs.Base.{pick, first_of, ◌∈◌}
use Rattle.definition.specs.Rule.{Kind, MorphismKind}
use Rattle.definition.specs.Walk.{of_pair}

-- The kind of a pair, if it has one.
abbrev pub kind_of_pair : ℕ → ℕ → Kind → Option MorphismKind
kind_of_pair s t k = pick (of_pair s t k) (some k.kind) none

unfoldable pub kind_at : List Kind → ℕ → ℕ → Option MorphismKind
kind_at ks s t = first_of (kind_of_pair s t) ks

-- As a list of kinds.
abbrev pub kinds_of : ℕ → ℕ → Option MorphismKind → List Kind
kinds_of s t none = []
kinds_of s t (some k) = record { source = s; target = t; kind = k } ∷ []

-- Kinds in which a pair stands once.
abbrev pub Once : List Kind → Type 0
Once [] = Unit
Once (k ∷ ks) = ((j : Kind) → j ∈ ks → of_pair k.source k.target j ≡ false) × Once ks
