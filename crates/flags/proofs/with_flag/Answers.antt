use borrow.Author.Rules.{rules}
use Rattle.flags.specs.Flags.{with_flag}
use Rattle.flags.proofs.Bits.{pow_fits, shift_is}
use Rattle.flags.proofs.with_flag.Goals as goal

pub overflow_add-word : goal.overflow_add-word
overflow_add-word c =
    let i = c.args.i in let l = c.requires.0 in let f = pow_fits i l in let s = c.requires.1.small in rw (shift_is i l) (search rules)

pub returns : goal.returns
unfolding with_flag
returns c = rw (shift_is c.args.i c.requires.0)
