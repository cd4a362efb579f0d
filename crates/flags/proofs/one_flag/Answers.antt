use Rattle.flags.specs.Flags.{only_flag}
use Rattle.flags.proofs.Words.{above_none}
use Rattle.flags.proofs.one_flag.Goals as goal

pub with_flag-requires : goal.with_flag-requires
with_flag-requires c = (c.requires, above_none _)

pub returns : goal.returns
unfolding only_flag
returns c = rw c.with_flag.ensures
