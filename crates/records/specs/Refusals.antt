-- Refusals as the definition's numbers.
use Rattle.std.specs.Prelude.{ℕ, Result, Ok, Err}
use Rattle.std.proofs.Math.Option.{Option, none, some}
use Rattle.definition.specs.Base.{Outcome, refused, accepted}
use Rattle.records.specs.declared.refusal.Refusal.{Refusal}
use Rattle.records.specs.declared.refusal.Refusal.TheVariants as refusal

-- The number of each.
abbrev pub number : Refusal → ℕ
number refusal.TooLong = 1
number refusal.BadFields = 2
number refusal.BadLength = 3
number refusal.TooMany = 4
number refusal.Undeclared = 5
number refusal.NotAscending = 6
number refusal.BadArity = 7
number refusal.BadName = 8
number refusal.UnmappedAuxiliary = 21
number refusal.UnmappedKind = 22
number refusal.UnreachedSource = 23
number refusal.ReachedTarget = 24
number refusal.KernelTypesDiffer = 25
number refusal.UnmappedElement = 26
number refusal.NewElement = 27
number refusal.NewElements = 28
number refusal.NotYielded = 29
number refusal.UnmappedArgument = 30
number refusal.NoRoom = 31
number refusal.NoSuchRule = 41
number refusal.PremiseEquality = 42
number refusal.TooFewVariables = 43

-- What a check found, as the definition's fault: the refusal's number, or none.
abbrev pub fault_of : {A : Type 0} → Result A Refusal → Option ℕ
fault_of (Ok x) = none
fault_of (Err r) = some (number r)

-- What a reader or a writer answers, as the definition's outcome: the refusal's number, or the value.
abbrev pub outcome : {A : Type 0} → Result A Refusal → Outcome A
outcome (Ok x) = accepted x
outcome (Err r) = refused (number r)

-- The same where the value is seen as another.
abbrev pub outcome_by : {A B : Type 0} → (A → B) → Result A Refusal → Outcome B
outcome_by view (Ok x) = accepted (view x)
outcome_by view (Err r) = refused (number r)
