-- Scope's answers as the definition's, and where the owners stand.
use Rattle.std.specs.Prelude as std
use Rattle.std.specs.Prelude.{Result, Ok, Err, Some, None, List, [], ◌≡◌, ℕ, ◌+◌, ◌*◌, ◌≤◌, ◌<◌, length}
use Rattle.std.proofs.Math.Option.{Option, none, some}
use Rattle.definition.specs.Base.{Outcome, refused, accepted}
use Rattle.definition.specs.Records.{numbers}
use Rattle.definition.specs.Scope as definition
use Rattle.definition.specs.Scope.{owners_at}
use Rattle.records.specs.Places.{stretch}
use Rattle.records.specs.Iter.{fields_in}
use Rattle.records.specs.Refusals.{number, outcome_by}
use Rattle.records.specs.declared.refusal.Refusal.{Refusal}
use Rattle.group.specs.declared.rule.FlatRule.{FlatRule}
use Rattle.scope.specs.declared.answers.Owned.{Owned}
use Rattle.scope.specs.declared.answers.Verdict.{Verdict}
use Rattle.scope.specs.declared.answers.Verdict.TheVariants.{Open, Global}

-- No model, or a model and the numbers that stand in the group as its owners.
abbrev pub owned_as : List ℕ → std.Option Owned → definition.Scope
owned_as group None = definition.global
owned_as group (Some own) = definition.model own.model.0 (numbers (stretch group own.start (2 * own.count)))

-- The answer: that, or refused.
abbrev pub scope_answer : List ℕ → Result (std.Option Owned) Refusal → Outcome definition.Scope
scope_answer group = outcome_by (owned_as group)

-- Where there are owners, they stand where the definition says.
abbrev pub OwnersStand : List ℕ → ℕ → Result (std.Option Owned) Refusal → Type 0
OwnersStand group position (Ok (Some own)) = (own.start ≡ owners_at group position) × (own.start + 2 * own.count ≤ length group)
OwnersStand group position (Ok None) = Unit
OwnersStand group position (Err r) = Unit

-- Where a rule has owners, they stand from a position on.
abbrev pub Leads : Result (std.Option Owned) Refusal → ℕ → ℕ → Type 0
Leads (Ok (Some own)) from size = (own.start ≡ from) × (own.start + 2 * own.count ≤ size)
Leads (Ok None) from size = Unit
Leads (Err r) from size = Unit

-- Where a rule has owners, it has a conclusion, and they stand in the first one, behind letter, length, kind and symbol.
abbrev pub OwnersFrom : Result (std.Option Owned) Refusal → FlatRule → ℕ → Type 0
OwnersFrom (Ok (Some own)) rule size =
    (fields_in rule.conclusions.now ≡ [] → ⊥) × (own.start ≡ rule.from + 6) × (own.start + 2 * own.count ≤ size)
OwnersFrom (Ok None) rule size = Unit
OwnersFrom (Err r) rule size = Unit

-- What a statement settles, if anything.
abbrev pub verdict_of : Result Verdict Refusal → Option (Outcome definition.Scope)
verdict_of (Ok Open) = none
verdict_of (Ok Global) = some (accepted definition.global)
verdict_of (Err r) = some (refused (number r))
