-- No loop: the pass, then the checks of N, of the structures, and of M, K and X. The first fault is the answer (`answer_head`,
-- `answer_structures`, `answer_tail`); without one, a part that ended early is 2 (`answer_part`), and a whole one is accepted
-- (`answer_sound`), with its index (`answer_indexed`). Each of these takes what the calls so far told.
use borrow.Author.Tests.{not-true, not-false}
use Rattle.records.proofs.Results.{passed_on}
use Rattle.rule.proofs.Answering.{answer_head, answer_structures, answer_tail, answer_part, answer_sound, answer_indexed}
use Rattle.rule.specs.Lookup.{rule_at}
use Rattle.rule.proofs.Whole.{read_long}
use Rattle.rule.proofs.reader.index_rule.Goals as goal

pub returns-then-s-gt-RULE_BYTES-clause-value : goal.returns-then-s-gt-RULE_BYTES-clause-value
returns-then-s-gt-RULE_BYTES-clause-value c = read_long _ _ c.if-s-gt-RULE_BYTES.true

pub returns-in_err-check_name-clause-value : goal.returns-in_err-check_name-clause-value
returns-in_err-check_name-clause-value c =
    rw (passed_on c.from_residual.ensures)
    (answer_head _ c.if-s-gt-RULE_BYTES.false c.pass-p.ensures.passes c.in_err-check_name.ensures)

pub returns-in_err-check_structures-clause-value : goal.returns-in_err-check_structures-clause-value
returns-in_err-check_structures-clause-value c =
    rw (passed_on c.from_residual-in_err-check_structures.ensures)
    (answer_structures _ c.if-s-gt-RULE_BYTES.false c.pass-p.ensures.passes c.in_ok-check_name.ensures
    c.in_err-check_structures.ensures.result_value)

pub returns-in_err-check_tail-clause-value : goal.returns-in_err-check_tail-clause-value
returns-in_err-check_tail-clause-value c =
    let structures = c.in_ok-check_structures.ensures in
    rw (passed_on c.from_residual-in_err-check_tail.ensures)
    (answer_tail _ c.if-s-gt-RULE_BYTES.false c.pass-p.ensures.passes c.in_ok-check_name.ensures
    structures.result_value structures.all_hold structures.all_stored c.in_err-check_tail.ensures)

pub returns-then-not-p-clause-value : goal.returns-then-not-p-clause-value
returns-then-not-p-clause-value c =
    let structures = c.in_ok-check_structures.ensures in
    answer_part _ c.if-s-gt-RULE_BYTES.false c.pass-p.ensures.passes c.in_ok-check_name.ensures
    structures.result_value structures.all_hold structures.all_stored c.in_ok-check_tail.ensures (not-true _ c.if-not-p.true)

pub returns-clause-value : goal.returns-clause-value
unfolding rule_at
returns-clause-value c =
    let structures = c.in_ok-check_structures.ensures in
    answer_sound _ c.if-s-gt-RULE_BYTES.false c.pass-p.ensures.passes c.in_ok-check_name.ensures
    structures.result_value structures.all_hold structures.all_stored c.in_ok-check_tail.ensures (not-false _ c.if-not-p.false)

pub returns-clause-usable : goal.returns-clause-usable
returns-clause-usable c =
    let structures = c.in_ok-check_structures.ensures in
    answer_indexed _ c.if-s-gt-RULE_BYTES.false c.pass-p.ensures.passes c.in_ok-check_name.ensures
    structures.result_value structures.all_hold structures.all_stored c.in_ok-check_tail.ensures (not-false _ c.if-not-p.false)
