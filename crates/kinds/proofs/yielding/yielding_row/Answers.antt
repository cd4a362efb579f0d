-- The loop keeps that no row before the place yields e (`Sought`). A row with another result is passed (`seek_miss`); one whose result is e
-- is the first of all (`seek_found`); at the end none is left (`seek_end`).
use Rattle.std.proofs.Common.{sym, ◌∙◌, rules}
use Rattle.kinds.proofs.Seeking.{rows_few, seek_end, seek_miss, seek_found}
use Rattle.kinds.proofs.yielding.yielding_row.Goals as goal

pub loop-place-init-derived : goal.loop-place-init-derived
loop-place-init-derived c = let few = rows_few c.args.rows in search rules

pub returns-then-eq : goal.returns-then-eq
returns-then-eq c =
    let step = c.in-Some.ensures.steps in
    rw step.1 (seek_found c.loop-place.invariant c.in-Some.row step.0 c.row_result.ensures (sym c.eq.ensures ∙ c.if-eq.true))

pub loop-place-preserved : goal.loop-place-preserved
loop-place-preserved c =
    let step = c.in-Some.ensures.steps in
    rw step.2 (seek_miss c.loop-place.invariant c.in-Some.row step.0 c.row_result.ensures (sym c.eq.ensures ∙ c.if-eq.false))

pub returns : goal.returns
returns c = seek_end c.loop-place.invariant c.in-None.ensures.steps.0.0
