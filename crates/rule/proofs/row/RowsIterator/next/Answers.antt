use Rattle.std.proofs.Common.{List, length, refl, ap, rules}
use Rattle.definition.specs.Records.{Field}
use Rattle.definition.specs.Rule.{row_of}
use Rattle.rule.specs.Row.{row_kind}
use Rattle.definition.specs.Base.{each}
use Rattle.rule.proofs.row.RowsIterator.next.Goals as goal

pub returns-in_err-f-clause-steps : goal.returns-in_err-f-clause-steps
unfolding each
returns-in_err-f-clause-steps c = rw (c.from_residual.ensures, c.in_err-f.ensures.steps.0, c.in_err-f.ensures.steps.1) (refl, refl)

pub returns-clause-steps : goal.returns-clause-steps
unfolding each
returns-clause-steps c = rw (c.in_ok-f.ensures.steps.0, c.read_row.ensures.says c.in_ok-f.f.letter)

pub returns-clause-goes : goal.returns-clause-goes
unfolding each
returns-clause-goes c =
    let shorter = ap (λ (fs : List Field). length (each (row_of (row_kind c.args.self.now.kind)) fs)) c.in_ok-f.ensures.steps.0 in
    search rules
