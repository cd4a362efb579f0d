-- No loop: the T, P and F fields are checked front to back. The first refusal is the record's first fault (`read_types`, `read_preds`,
-- `read_funcs`). Without one, bytes that are left are 2 (`read_part_lem`); else it is accepted (`read_sound`), and the index holds its fields,
-- as no check alters entries before its own (`read_indexed`). Each of these takes what the calls so far told.
use Rattle.records.proofs.Results.{passed_on}
use Rattle.signature.proofs.Whole.{read_long, read_types, read_preds, read_funcs, read_part_lem, read_sound, read_indexed, behind_types, behind_preds}
use Rattle.signature.proofs.reader.index_symbols.Goals as goal

pub returns-then-s-gt-SIGNATURE_BYTES-clause-value : goal.returns-then-s-gt-SIGNATURE_BYTES-clause-value
returns-then-s-gt-SIGNATURE_BYTES-clause-value c = read_long _ c.if-s-gt-SIGNATURE_BYTES.true

pub returns-in_err-t-clause-value : goal.returns-in_err-t-clause-value
returns-in_err-t-clause-value c =
    rw (passed_on c.from_residual.ensures)
    (read_types c.pass-types.ensures c.if-s-gt-SIGNATURE_BYTES.false c.new-all.result c.new-all.ensures c.check.ensures.checks_up_to c.in_err-t.was)

pub check-requires-2-clause-end_of : goal.check-requires-2-clause-end_of
check-requires-2-clause-end_of c =
    behind_types c.pass-types.ensures c.if-s-gt-SIGNATURE_BYTES.false c.new-all.result c.new-all.ensures
    c.check.ensures.checks_up_to c.in_ok-t.was

pub returns-in_err-p-clause-value : goal.returns-in_err-p-clause-value
returns-in_err-p-clause-value c =
    rw (passed_on c.from_residual-in_err-p.ensures)
    (read_preds c.pass-types.ensures c.if-s-gt-SIGNATURE_BYTES.false c.new-all.result c.new-all.ensures
    c.check.ensures.checks_up_to c.in_ok-t.was c.check-2.ensures.checks_up_to c.in_err-p.was)

pub check-requires-3-clause-end_of : goal.check-requires-3-clause-end_of
check-requires-3-clause-end_of c =
    behind_preds c.pass-types.ensures c.if-s-gt-SIGNATURE_BYTES.false c.new-all.result c.new-all.ensures
    c.check.ensures.checks_up_to c.in_ok-t.was c.check-2.ensures.checks_up_to c.in_ok-p.was

pub returns-in_err-f-clause-value : goal.returns-in_err-f-clause-value
returns-in_err-f-clause-value c =
    rw (passed_on c.from_residual-in_err-f.ensures)
    (read_funcs c.pass-types.ensures c.if-s-gt-SIGNATURE_BYTES.false c.new-all.result c.new-all.ensures
    c.check.ensures.checks_up_to c.in_ok-t.was c.check-2.ensures.checks_up_to c.in_ok-p.was c.check-3.ensures.checks_up_to c.in_err-f.was)

pub returns-then-part-s-clause-value : goal.returns-then-part-s-clause-value
returns-then-part-s-clause-value c =
    read_part_lem c.pass-types.ensures c.if-s-gt-SIGNATURE_BYTES.false c.new-all.result c.new-all.ensures
    c.check.ensures.checks_up_to c.in_ok-t.was c.check-2.ensures.checks_up_to c.in_ok-p.was c.check-3.ensures.checks_up_to c.in_ok-f.was
    c.if-part-s.true

pub returns-clause-usable : goal.returns-clause-usable
returns-clause-usable c =
    read_indexed c.pass-types.ensures c.if-s-gt-SIGNATURE_BYTES.false c.new-all.result c.new-all.ensures
    c.check.ensures.checks_up_to c.in_ok-t.was c.check-2.ensures.checks_up_to c.in_ok-p.was c.check-3.ensures.checks_up_to c.in_ok-f.was
    c.check.ensures.stored c.check-2.ensures.stored c.check-3.ensures.stored c.if-part-s.false

pub returns-clause-value : goal.returns-clause-value
returns-clause-value c =
    read_sound c.pass-types.ensures c.if-s-gt-SIGNATURE_BYTES.false c.new-all.result c.new-all.ensures
    c.check.ensures.checks_up_to c.in_ok-t.was c.check-2.ensures.checks_up_to c.in_ok-p.was c.check-3.ensures.checks_up_to c.in_ok-f.was
    c.check.ensures.stored c.check-2.ensures.stored c.check-3.ensures.stored c.if-part-s.false
