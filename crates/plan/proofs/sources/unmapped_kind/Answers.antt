use borrow.Author.Rules.{rules}
use Rattle.definition.specs.Rule.{kind_of}
use Rattle.definition.specs.Walk.{unmapped_kind}
use Rattle.plan.specs.Sources.{no_map}
use Rattle.plan.proofs.Chains.{any_told}
use Rattle.plan.proofs.sources.unmapped_kind.Goals as goal

pub returns : goal.returns
unfolding unmapped_kind
returns c = rw c.kinds.ensures.value at (any_told kind_of (no_map c.args.tail.now.maps) (λ x r h k. search rules) c.any.ensures.ran)
