use native.Mathlib.Omega.{arith}
use borrow.Author.Rules.{rules}
use Rattle.definition.specs.Base.{lowest}
use Rattle.definition.specs.Rule.{kind_fault}
use Rattle.rule.proofs.faults.kind_fault.Goals as goal

pub returns-then-first_not_above : goal.returns-then-first_not_above
unfolding kind_fault lowest
returns-then-first_not_above c = λ letter before. let z = c.first_not_above.ensures letter before in search rules

pub returns : goal.returns
unfolding kind_fault lowest
returns c = λ letter before. let z = c.first_not_above.ensures letter before in grind arith
