use borrow.Author.Rules.{rules}
use Rattle.flags.specs.Flags.{none_set}
use Rattle.flags.proofs.none_set.Goals as goal

pub returns : goal.returns
unfolding none_set
returns c = search rules
