-- What flatten answers.
use Rattle.std.specs.Prelude.{List, ◌≡◌, ℕ, ◌*◌, ◌≤◌, Result, Ok, Err, length, take, replicate}
use Rattle.definition.specs.Base.{Outcome, refused, accepted, on_accepted}
use Rattle.definition.specs.Limits.{field_limit}
use Rattle.definition.specs.Walk.{State, walk_of}
use Rattle.definition.specs.Writer.{group_bytes_of}
use Rattle.definition.specs.Flatten.{group_left, fitted, laid_over}
use Rattle.definition.specs.Demands.{Demand3}
use Rattle.records.specs.Refusals.{outcome_by}
use Rattle.records.specs.declared.refusal.Refusal.{Refusal}
use Rattle.rule.specs.Views.{RuleBy}
use Rattle.walk.specs.Went.{whole_walk}

-- How many bytes were written, or the refusal's number.
abbrev pub outcome_in : Result ℕ Refusal → Outcome ℕ
outcome_in = outcome_by (λ (n : ℕ). n)

-- How many bytes are to be written, or the number.
abbrev pub answer_of : Outcome (List ℕ) → Outcome ℕ
answer_of (accepted bytes) = accepted (length bytes)
answer_of (refused n) = refused n

-- Demand 3, of the group that was written.
abbrev pub Demanded : Result ℕ Refusal → List ℕ → List ℕ → List ℕ → Type 0
Demanded (Ok n) sig rule out = Demand3 sig rule (take n out)
Demanded (Err r) sig rule out = Unit

-- An outcome as the answer and in the buffer.
pub record Writes (r : Result ℕ Refusal) (out₀ out : List ℕ) (o : Outcome (List ℕ)) : Type 0 where
  pub answer : outcome_in r ≡ answer_of o
  pub buffer : out ≡ laid_over o out₀

-- A table of types before any variable is given out, with a place for each element of so many structures.
pub record Untyped (types : List ℕ) (n : ℕ) : Type 0 where
  pub size : ℕ
  pub zeros : types ≡ replicate size 0
  pub enough : field_limit * n ≤ length types

-- What comes of the walk, and what flatten makes of an accepted rule.
unfoldable pub walk_outcome : RuleBy → ℕ → Outcome (List ℕ)
walk_outcome x room = on_accepted (whole_walk x) (λ (state : State). fitted room (group_bytes_of (group_left x.rule state)))

unfoldable pub rule_outcome : RuleBy → ℕ → Outcome (List ℕ)
rule_outcome x room = on_accepted (walk_of x.sig x.rule) (λ (state : State). fitted room (group_bytes_of (group_left x.rule state)))
