use Rattle.records.proofs.Results.{passed_on}
use Rattle.rule.proofs.Bodies.{run_e, named_is, known_more, bodied_kept, body_e, body_rest}
use Rattle.rule.proofs.reader.check_body.Goals as goal

pub returns-in_err-check_elements-clause-result_value : goal.returns-in_err-check_elements-clause-result_value
returns-in_err-check_elements-clause-result_value c =
    λ body b. rw (passed_on c.from_residual.ensures)
    (body_e _ body (c.in_err-check_elements.ensures.checked _ (run_e b c.section_at-section.ensures.0 c.section_at-section.ensures.1)))

pub check_rest-requires-clause-known : goal.check_rest-requires-clause-known
check_rest-requires-clause-known c =
    let w = c.in_ok-check_elements.ensures.stored in known_more w.kept c.requires.known c.requires.k_lt_structure_limit w.known

pub returns-in_err-check_rest-clause-result_value : goal.returns-in_err-check_rest-clause-result_value
returns-in_err-check_rest-clause-result_value c =
    λ body b. rw (passed_on c.from_residual-in_err-check_rest.ensures)
    (let w = c.in_ok-check_elements.ensures in let r = run_e b c.section_at-section.ensures.0 c.section_at-section.ensures.1 in
    body_rest _ body (w.checked _ r)
    (c.in_err-check_rest.ensures body (bodied_kept c.requires.k_lt_structure_limit w.stored.kept b)
    (named_is body w.stored.known (w.held _ r).is)))

pub returns-clause-result_value : goal.returns-clause-result_value
returns-clause-result_value c =
    λ body b. (let w = c.in_ok-check_elements.ensures in let r = run_e b c.section_at-section.ensures.0 c.section_at-section.ensures.1 in
    body_rest _ body (w.checked _ r)
    (c.in_ok-check_rest.ensures body (bodied_kept c.requires.k_lt_structure_limit w.stored.kept b)
    (named_is body w.stored.known (w.held _ r).is)))

pub returns-clause-holds : goal.returns-clause-holds
returns-clause-holds c = λ body b. c.in_ok-check_elements.ensures.held _ (run_e b c.section_at-section.ensures.0 c.section_at-section.ensures.1)
