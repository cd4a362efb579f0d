-- What the judgement of a whole record says.
use Rattle.std.specs.Prelude.{List, ℕ}
use Rattle.std.proofs.Math.Option.{Option, none, some}
use Rattle.definition.specs.Base.{Outcome, refused, accepted, on_accepted}
use Rattle.definition.specs.Signature.{Signature, read_signature}
use Rattle.definition.specs.Rule.{Rule, read_rule}
use Rattle.definition.specs.Group.{Group, read_group}

-- The number of a definition's answer, if it refuses.
abbrev pub refusal_of : {A : Type 0} → Outcome A → Option ℕ
refusal_of (refused n) = some n
refusal_of (accepted a) = none

-- A signature and a rule read: 'all of the signature's refusals, then all of the rule's'.
abbrev pub rule_read : List ℕ → List ℕ → Outcome Rule
rule_read sig rule = on_accepted (read_signature sig) (λ (g : Signature). read_rule g rule)

-- A signature and a group read: 'all of the signature's refusals, then all of the group's'.
abbrev pub group_read : List ℕ → List ℕ → Outcome Group
group_read sig group = on_accepted (read_signature sig) (λ (g : Signature). read_group g group)
