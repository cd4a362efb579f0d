-- The two sides of a rule: what a statement of each settles.
use Rattle.std.specs.Prelude.{Bool, List, ℕ, eqb}
use Rattle.std.proofs.Math.Option.{Option, none, some}
use Rattle.definition.specs.Base.{Outcome, refused, accepted, pick, or_else, first_of}
use Rattle.definition.specs.Letters.{equality}
use Rattle.definition.specs.Signature.{Signature}
use Rattle.definition.specs.Group.{Variable, Statement, FlatRule}
use Rattle.definition.specs.Scope.{Scope, global, related, conclusion_verdict, premise_verdict}
use Rattle.group.specs.declared.ids.Side.{Side}
use Rattle.group.specs.declared.ids.Side.TheVariants.{Premise, Conclusion}

-- What a statement settles, if anything.
unfoldable pub verdict_at : Side → Signature → List Variable → ℕ → List ℕ → Statement → Option (Outcome Scope)
verdict_at Premise = premise_verdict
verdict_at Conclusion = conclusion_verdict

-- The first verdict of a rule, its conclusions' before its premises'.
unfoldable pub first_verdict : Signature → List Variable → FlatRule → ℕ → List ℕ → Option (Outcome Scope)
first_verdict sig table r m owners =
    or_else (first_of (conclusion_verdict sig table m owners) r.conclusion) (first_of (premise_verdict sig table m owners) r.premise)

-- A statement without a model, by its kind.
unfoldable pub without_model : Side → ℕ → Option (Outcome Scope)
without_model Premise kind = pick (eqb kind equality) (some (refused 42)) none
without_model Conclusion kind = some (accepted global)

-- The rule's model and a statement's.
unfoldable pub suiting : Side → Signature → ℕ → ℕ → Bool
suiting Premise sig m p = related sig m p
suiting Conclusion sig m p = eqb p m
