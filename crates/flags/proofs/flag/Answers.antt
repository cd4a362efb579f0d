use Prim.Native.Nat.{◌/◌, ◌^◌}
use lib.Bits.{and_mask}
use Rattle.flags.specs.Flags.{flag_at}
use Rattle.flags.proofs.flag.Goals as goal

pub returns : goal.returns
unfolding flag_at
returns c = rw (and_mask (c.args.mask.word / 2 ^ c.args.i) 1)
