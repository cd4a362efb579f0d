-- An accepted rule, as the lookups speak of it.
use Rattle.std.specs.Prelude.{List, ℕ}
use Rattle.definition.specs.Rule.{Rule, rule_of, rule_part, If, SurjThen, NonSurjThen, Noop}
use Rattle.definition.specs.Rule as definition
use Rattle.definition.specs.Signature.{Signature}
use Rattle.rule.specs.Answers.{Indexed}
use Rattle.rule.specs.declared.tail.MorphismKind.{MorphismKind}
use Rattle.rule.specs.declared.tail.MorphismKind.TheVariants as kind

-- What the record says.
unfoldable pub rule_at : List ℕ → Rule
rule_at s = rule_of (rule_part s).fields

-- A rule that was accepted, with its index.
pub record Ready (s index : List ℕ) : Type 0 where
  pub sig : Signature
  pub count : ℕ
  pub indexed : Indexed sig s index count

-- A kind as the definition's.
abbrev pub kind_is : MorphismKind → definition.MorphismKind
kind_is kind.If = If
kind_is kind.SurjThen = SurjThen
kind_is kind.NonSurjThen = NonSurjThen
kind_is kind.Noop = Noop
