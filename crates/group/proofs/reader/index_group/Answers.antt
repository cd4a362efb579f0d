-- No loop: `pass`, `title`, `variables` and `rules` go front to back, so the first of them to refuse names the record's first fault. For
-- each return a law of Whole (`read_long` to `read_all`) takes what the calls before it answered. The index is usable (`usable`), as
-- `rules` left the entries of the variables as they were (`Kept`).
use mathlib.Core.Path.{sym}
use borrow.Author.Tests.{not-true, not-false}
use Rattle.records.proofs.Results.{passed_on}
use Rattle.group.proofs.Whole.{read_long, read_empty, read_title, read_variables, read_rules, read_left, read_all, usable}
use Rattle.group.proofs.reader.index_group.Goals as goal

pub returns-then-s-gt-GROUP_BYTES-clause-value : goal.returns-then-s-gt-GROUP_BYTES-clause-value
returns-then-s-gt-GROUP_BYTES-clause-value c = read_long _ _ c.if-s-gt-GROUP_BYTES.true

pub returns-then-p-eq0-clause-value : goal.returns-then-p-eq0-clause-value
returns-then-p-eq0-clause-value c = read_empty _ c.pass-p.ensures c.if-s-gt-GROUP_BYTES.false c.if-p-eq0.true

pub returns-in_err-g-clause-value : goal.returns-in_err-g-clause-value
returns-in_err-g-clause-value c =
    rw (passed_on c.from_residual.ensures)
    (read_title _ c.pass-p.ensures c.if-s-gt-GROUP_BYTES.false c.if-p-eq0.false c.title.ensures.by_index c.in_err-g.was)

pub returns-in_err-w-clause-value : goal.returns-in_err-w-clause-value
returns-in_err-w-clause-value c =
    rw (passed_on c.from_residual-in_err-w.ensures)
    (read_variables _ c.pass-p.ensures c.if-s-gt-GROUP_BYTES.false c.if-p-eq0.false c.title.ensures.by_index c.in_ok-g.was
    (sym c.types.ensures) c.variables.ensures.variable c.in_err-w.was)

pub returns-in_err-u-clause-value : goal.returns-in_err-u-clause-value
returns-in_err-u-clause-value c =
    rw (passed_on c.from_residual-in_err-u.ensures)
    (read_rules _ c.pass-p.ensures c.if-s-gt-GROUP_BYTES.false c.if-p-eq0.false c.title.ensures.by_index c.in_ok-g.was
    (sym c.types.ensures) c.variables.ensures.variable c.in_ok-w.was c.rules.ensures.all_rules c.in_err-u.was)

pub returns-then-not-p-clause-value : goal.returns-then-not-p-clause-value
returns-then-not-p-clause-value c =
    read_left _ c.pass-p.ensures c.if-s-gt-GROUP_BYTES.false c.if-p-eq0.false c.title.ensures.by_index c.in_ok-g.was
    (sym c.types.ensures) c.variables.ensures.variable c.in_ok-w.was c.rules.ensures.all_rules c.in_ok-u.was (not-true _ c.if-not-p.true)

pub returns-clause-value : goal.returns-clause-value
returns-clause-value c =
    read_all _ c.pass-p.ensures c.if-s-gt-GROUP_BYTES.false c.if-p-eq0.false c.title.ensures.by_index c.in_ok-g.was
    (sym c.types.ensures) c.variables.ensures.variable c.in_ok-w.was c.rules.ensures.all_rules c.in_ok-u.was (not-false _ c.if-not-p.false)

pub returns-clause-usable : goal.returns-clause-usable
returns-clause-usable c =
    usable _ c.pass-p.ensures c.if-s-gt-GROUP_BYTES.false c.if-p-eq0.false c.title.ensures.by_index c.in_ok-g.was
    (sym c.types.ensures) c.variables.ensures.variable c.in_ok-w.was c.rules.ensures.all_rules c.in_ok-u.was c.rules.ensures.kept
