-- Invariant: all are below the limit where all from the place on are.
use Rattle.std.proofs.Common.{◌∙◌, sym}
use borrow.Author.Tests.{le-ltb, lt-ltb}
use borrow.Author.Rules.{rules}
use Rattle.definition.specs.Records.{number_at}
use Rattle.laws.proofs.Numbers.{length_numbers}
use Rattle.records.proofs.Along.{all_start, all_no, all_on, all_end}
use Rattle.records.proofs.contents.named.Goals as goal

pub returns-then-limit-from : goal.returns-then-limit-from
unfolding number_at
returns-then-limit-from c =
    sym (all_start _ _ ∙ c.loop-place.invariant
    ∙ all_no _ _ (length_numbers _) (search rules) (sym c.number.ensures) (le-ltb _ _ (rw c.from.ensures at c.if-limit-from.true)))

pub loop-place-preserved : goal.loop-place-preserved
unfolding number_at
loop-place-preserved c =
    c.loop-place.invariant
    ∙ all_on _ _ (length_numbers _) (search rules) (sym c.number.ensures) (lt-ltb _ _ (rw c.from.ensures at c.if-limit-from.false))

pub returns : goal.returns
returns c = sym (all_start _ _ ∙ c.loop-place.invariant ∙ all_end _ _ (length_numbers _) (search rules))
