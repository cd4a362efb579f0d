use borrow.Author.Tests.{ne_eqb}
use native.Mathlib.Omega.{arith}
use Rattle.signature.specs.Faults.{check_of}
use Rattle.signature.proofs.faults.field_fault_by_letter.Goals as goal

pub returns-in-84 : goal.returns-in-84
unfolding check_of
returns-in-84 c = λ last. rw c.in-84.is (c.type_fault.ensures _ last)

pub returns-in-80 : goal.returns-in-80
unfolding check_of
returns-in-80 c = λ last. rw c.in-80.is (c.symbol_fault.ensures _ last)

pub returns-in_default : goal.returns-in_default
unfolding check_of
returns-in_default c = λ last.
    rw (ne_eqb c.args.letter 84 (λ e. omega arith), ne_eqb c.args.letter 80 (λ e. omega arith)) (c.symbol_fault-in_default.ensures _ last)
