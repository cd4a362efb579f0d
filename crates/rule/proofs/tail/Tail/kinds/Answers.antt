use mathlib.Core.Path.{refl}
use Rattle.definition.specs.Rule.{rule_of}
use Rattle.rule.specs.Lookup.{rule_at}
use Rattle.rule.specs.Layout.{letter_at}
use Rattle.rule.proofs.RuleLaws.{tail_sound}
use Rattle.rule.proofs.tail.Tail.kinds.Goals as goal

pub returns-clause-value : goal.returns-clause-value
unfolding rule_at rule_of letter_at
returns-clause-value c = rw (← c.self.view_is, c.new.ensures, c.tail_part.ensures) refl

pub returns-clause-sound : goal.returns-clause-sound
returns-clause-sound c = rw (← c.self.view_is) (tail_sound c.self.invariant)
