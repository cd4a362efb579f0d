use native.Mathlib.Omega.{arith}
use borrow.Author.Rules.{rules}
use Rattle.std.proofs.Common.{sym, ◌∙◌, ◌≤◌, length}
use Rattle.definition.specs.Base.{lowest}
use Rattle.definition.specs.Rule.{element_fault, element_of}
use Rattle.laws.proofs.Numbers.{length_numbers}
use Rattle.rule.proofs.Drawn.{behind_two, above_last}
use Rattle.rule.proofs.faults.element_fault.Goals as goal

pub returns-then-first_not_above-clause-result_value : goal.returns-then-first_not_above-clause-result_value
unfolding element_fault element_of lowest
returns-then-first_not_above-clause-result_value c =
    λ letter before. let z = c.first_not_above.ensures letter before in grind (arith, behind_two, length_numbers)

pub returns-then-parents-type_parents-clause-result_value : goal.returns-then-parents-type_parents-clause-result_value
unfolding element_fault element_of lowest
returns-then-parents-type_parents-clause-result_value c =
    λ letter before. let z = c.first_not_above.ensures letter before in grind (arith, behind_two, length_numbers)

pub returns-clause-result_value : goal.returns-clause-result_value
unfolding element_fault element_of lowest
returns-clause-result_value c =
    λ letter before. let z = c.first_not_above.ensures letter before in grind (arith, behind_two, length_numbers)

pub returns-clause-fits : goal.returns-clause-fits
returns-clause-fits c =
    let long : 4 ≤ length c.args.f.content.now = search rules in
    record { is = (long, c.if-f-ge-FIELDS.false, above_last _ _ long (sym (c.first_not_above.ensures 0 0) ∙ c.if-first_not_above.false)) }
