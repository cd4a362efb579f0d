-- No loop: the U field, then the B fields, then the H fields; the first fault is the rule's (`rule_fault`, `premise_fault`,
-- `conclusion_fault`), and without one the H fields start where the B fields end (`rule_done`). A sound U field shows that the rules are
-- within their limit (`rule_few`).
use native.Mathlib.Omega.{arith}
use Rattle.records.specs.Places.{stretch}
use Rattle.records.proofs.Results.{passed_on, was_some, was_none}
use Rattle.signature.proofs.Checking.{told_sound, told_drawn}
use Rattle.group.proofs.Given.{given_here, run_given}
use Rattle.group.proofs.Blocks.{rule_few, rule_fault, premise_fault, conclusion_fault, rule_done}
use Rattle.group.proofs.reader.rule.Goals as goal

pub returns-in_err-f-clause-rule : goal.returns-in_err-f-clause-rule
unfolding stretch
returns-in_err-f-clause-rule c = λ f fs r o.
    absurd (run_given r c.requires.at_in_bounds.1 c.new-fields.ensures
    (rw (was_none _ c.ok_or.ensures.value c.in_err-f.was) at c.next.ensures.steps).0)

pub returns-in_err-rule_fault-clause-rule : goal.returns-in_err-rule_fault-clause-rule
unfolding stretch
returns-in_err-rule_fault-clause-rule c = λ f fs r o.
    let steps = rw (was_some _ c.ok_or.ensures.value c.in_ok-f.was) at c.next.ensures.steps in
    let g = given_here c.args.s.now c.args.at c.args.end c.requires.at_in_bounds.0 c.requires.at_in_bounds.1 c.new-fields.ensures steps.1 in
    rw (passed_on c.from_residual-in_err-rule_fault.ensures)
    (rule_fault _ _ _ r o g.there (λ letter. rw (← g.content) (told_drawn (c.rule_fault.ensures letter) c.in_err-rule_fault.was)))

pub returns-in_err-b-clause-rule : goal.returns-in_err-b-clause-rule
unfolding stretch
returns-in_err-b-clause-rule c = λ f fs r o.
    let steps = rw (was_some _ c.ok_or.ensures.value c.in_ok-f.was) at c.next.ensures.steps in
    let g = given_here c.args.s.now c.args.at c.args.end c.requires.at_in_bounds.0 c.requires.at_in_bounds.1 c.new-fields.ensures steps.1 in
    rw (passed_on c.from_residual-in_err-b.ensures)
    (premise_fault _ _ _ r o g.there (λ letter. rw (← g.content) (told_sound (c.rule_fault.ensures letter) c.in_ok-rule_fault.was))
    (λ gs q. rw c.in_err-b.was at (c.statements.ensures.section gs q)))

pub returns-in_err-h-clause-rule : goal.returns-in_err-h-clause-rule
unfolding stretch
returns-in_err-h-clause-rule c = λ f fs r o.
    let steps = rw (was_some _ c.ok_or.ensures.value c.in_ok-f.was) at c.next.ensures.steps in
    let g = given_here c.args.s.now c.args.at c.args.end c.requires.at_in_bounds.0 c.requires.at_in_bounds.1 c.new-fields.ensures steps.1 in
    rw (passed_on c.from_residual-in_err-h.ensures)
    (conclusion_fault _ _ _ r o g.there (λ letter. rw (← g.content) (told_sound (c.rule_fault.ensures letter) c.in_ok-rule_fault.was))
    (λ gs q. rw c.in_ok-b.was at (c.statements.ensures.section gs q))
    (λ gs q. rw c.in_err-h.was at (c.statements-2.ensures.section gs q)))

pub returns-clause-rule : goal.returns-clause-rule
unfolding stretch
returns-clause-rule c = λ f fs r o.
    let steps = rw (was_some _ c.ok_or.ensures.value c.in_ok-f.was) at c.next.ensures.steps in
    let g = given_here c.args.s.now c.args.at c.args.end c.requires.at_in_bounds.0 c.requires.at_in_bounds.1 c.new-fields.ensures steps.1 in
    rule_done _ _ _ r o g.there (λ letter. rw (← g.content) (told_sound (c.rule_fault.ensures letter) c.in_ok-rule_fault.was))
    (λ gs q. rw c.in_ok-b.was at (c.statements.ensures.section gs q))
    (λ gs q. rw c.in_ok-h.was at (c.statements-2.ensures.section gs q))

pub returns-clause-rule_onward : goal.returns-clause-rule_onward
returns-clause-rule_onward c =
    let few = rule_few _ _ (told_sound (c.rule_fault.ensures 0) c.in_ok-rule_fault.was) in
    let p = rw c.in_ok-b.was at c.statements.ensures.onward in
    let q = rw c.in_ok-h.was at c.statements-2.ensures.onward in (few, omega arith, q.0, q.1)
