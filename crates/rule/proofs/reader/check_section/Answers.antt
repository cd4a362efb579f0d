use borrow.Author.Rules.{rules}
use Rattle.records.proofs.FieldsIn.{fields_few}
use Rattle.records.proofs.Results.{passed_on}
use Rattle.rule.proofs.Checking.{check_start, check_fault, check_next, check_end}
use Rattle.rule.proofs.reader.check_section.Goals as goal

pub loop-before-init : goal.loop-before-init
loop-before-init c = search (rules, check_start)

pub loop-before-init-derived : goal.loop-before-init-derived
loop-before-init-derived c = let few = fields_few c.args.part.now in search rules

pub returns-in_err-field_fault : goal.returns-in_err-field_fault
returns-in_err-field_fault c =
    rw (passed_on c.from_residual.ensures)
    (check_fault c.loop-before.invariant c.in-Some.f c.in-Some.ensures.steps.0.0 (rw (← c.in-Some.ensures.steps.1) c.in_err-field_fault.ensures))

pub loop-before-preserved : goal.loop-before-preserved
loop-before-preserved c =
    rw c.in-Some.ensures.steps.2
    (check_next c.loop-before.invariant c.in-Some.f c.in-Some.ensures.steps.0.0 (rw (← c.in-Some.ensures.steps.1) c.in_ok-field_fault.ensures))

pub returns : goal.returns
returns c = check_end c.loop-before.invariant c.in-None.ensures.steps.0.0
