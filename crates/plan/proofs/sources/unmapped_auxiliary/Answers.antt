use borrow.Author.Rules.{rules}
use Rattle.definition.specs.Rule.{auxiliary_of}
use Rattle.definition.specs.Walk.{unmapped_auxiliary}
use Rattle.plan.specs.Sources.{no_source}
use Rattle.plan.proofs.Chains.{any_told}
use Rattle.plan.proofs.sources.unmapped_auxiliary.Goals as goal

pub returns : goal.returns
unfolding unmapped_auxiliary
returns c = rw c.auxiliaries.ensures.value at (any_told auxiliary_of (no_source c.args.tail.now.maps) (λ x r h k. search rules) c.any.ensures.ran)
