-- Answers as a C host sees them.
use Rattle.std.specs.Prelude.{List, ◌≡◌, ℕ, ◌+◌, ◌*◌, ◌≤◌, length, take, drop}
use Rattle.std.proofs.Math.Option.{Option, none, some}
use Rattle.definition.specs.Base.{Outcome, refused, accepted}
use Rattle.definition.specs.Scope.{Scope, global, model, owners_at}
use Rattle.definition.specs.Flatten.{flatten_of}
use Rattle.definition.specs.Demands.{Demand3}
use Rattle.cabinet.specs.declared.ScopeAnswer.{ScopeAnswer}
use Rattle.cabinet.specs.declared.FlattenAnswer.{FlattenAnswer}

-- The definition's number, or 0 where nothing is refused.
abbrev pub code_of : Option ℕ → ℕ
code_of none = 0
code_of (some n) = n

-- A scope without owners: refused with a number, or with 0 global.
abbrev pub unowned : ℕ → ScopeAnswer
unowned n = record { refused = n; kind = 0; model = 0; offset = 0; count = 0 }

-- The definition's scope as numbers.
unfoldable pub scope_told : List ℕ → ℕ → Outcome Scope → ScopeAnswer
scope_told group position (refused n) = unowned n
scope_told group position (accepted global) = unowned 0
scope_told group position (accepted (model m owners)) = record { refused = 0; kind = 1; model = m; offset = owners_at group position; count = length owners }

-- The part of the group that the numbers tell lies in it and holds the owners.
pub record OwnersHeld (group : List ℕ) (r : ScopeAnswer) (owners : List ℕ) : Type 0 where
  pub within : r.offset + 2 * r.count ≤ length group
  pub held : take (2 * r.count) (drop r.offset group) ≡ owners

-- The definition's group or refusal as numbers.
abbrev pub flatten_told : Outcome (List ℕ) → FlattenAnswer
flatten_told (refused n) = record { refused = n; written = 0 }
flatten_told (accepted group) = record { refused = 0; written = length group }

-- Demand 3 of the bytes told as written, where the rule is accepted.
abbrev pub GroupDemanded : List ℕ → List ℕ → ℕ → FlattenAnswer → List ℕ → Type 0
GroupDemanded sig rule room r out = (group : List ℕ) → flatten_of sig rule room ≡ accepted group → Demand3 sig rule (take r.written out)
