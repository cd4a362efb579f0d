-- The answers of the readings into lent indexes as the definition's, and what the indexes of accepted records hold.
use Rattle.std.specs.Prelude.{Result, Ok, Err, List, ◌≡◌, ℕ}
use Rattle.definition.specs.Base.{Outcome, accepted}
use Rattle.definition.specs.Signature.{read_signature}
use Rattle.definition.specs.Rule.{Rule, rule_of, rule_part}
use Rattle.definition.specs.Group.{Group, group_of, group_part}
use Rattle.records.specs.Refusals.{outcome_by}
use Rattle.records.specs.declared.refusal.Refusal.{Refusal}
use Rattle.signature.specs.Index as signature
use Rattle.signature.specs.Index.{signature_at}
use Rattle.signature.specs.declared.ids.Counts.{Counts}
use Rattle.rule.specs.Answers as rule
use Rattle.group.specs.Index as group
use Rattle.reading.specs.declared.RuleRead.{RuleRead}
use Rattle.reading.specs.declared.GroupRead.{GroupRead}

-- Refused, or accepted with what the rule's fields say. `RuleUsable` ties the counts to them.
abbrev pub rule_answer : List ℕ → Result RuleRead Refusal → Outcome Rule
rule_answer s = outcome_by (λ (read : RuleRead). rule_of (rule_part s).fields)

-- Refused, or accepted with what the group's fields say. `GroupUsable` ties the counts to them.
abbrev pub group_answer : List ℕ → Result GroupRead Refusal → Outcome Group
group_answer s = outcome_by (λ (read : GroupRead). group_of (group_part s).fields)

-- The signature that was accepted is the one that can be looked up.
pub record Held (sig symbols : List ℕ) (counts : Counts) : Type 0 where
  pub read : read_signature sig ≡ accepted (signature_at sig symbols counts)
  pub indexed : signature.Indexed sig symbols counts

-- A signature and a rule that were accepted can be looked up.
abbrev pub RuleUsable : List ℕ → List ℕ → List ℕ → List ℕ → Result RuleRead Refusal → Type 0
RuleUsable sig symbols s index (Err r) = Unit
RuleUsable sig symbols s index (Ok read) =
    Held sig symbols read.counts × rule.Indexed (signature_at sig symbols read.counts) s index read.structures

-- A signature and a group that were accepted can be looked up.
abbrev pub GroupUsable : List ℕ → List ℕ → List ℕ → List ℕ → Result GroupRead Refusal → Type 0
GroupUsable sig symbols s index (Err r) = Unit
GroupUsable sig symbols s index (Ok read) =
    Held sig symbols read.counts × group.Indexed (signature_at sig symbols read.counts) s index read.variables read.rules
