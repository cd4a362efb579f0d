-- Behind the first i rows the loop has written those of them that are flagged (Writing); the next is written or passed.
use mathlib.Core.Path.{◌≡◌, sym, ap}
use Rattle.definition.specs.Rule.{Row}
use Rattle.records.proofs.Tail.{wrote, passed, finish}
use Rattle.rule.specs.Els.{els_in}
use Rattle.rule.specs.Row.{row_from}
use Rattle.statements.specs.Parts.{rows_kinded, part_as}
use Rattle.statements.proofs.Rows.{row_few, row_next, rows_on, rows_pass, rows_end, rows_from}
use borrow.Author.Rules.{rules}
use Rattle.statements.proofs.sections.put_section.Goals as goal

pub put_row-at-requires : goal.put_row-at-requires
put_row-at-requires c =
    let e : els_in c.part.result.els ≡ (part_as c.args.said (row_from c.in-Some.row)).elements = ap (λ (r : Row). r.elements) c.part.ensures in
    (search rules, rw e (row_few c.loop-i.invariant.0 c.in-Some.ensures.steps.0 c.args.said))

pub loop-i-preserved-then-flag : goal.loop-i-preserved-then-flag
loop-i-preserved-then-flag c =
    let inv = c.loop-i.invariant in let step = c.in-Some.ensures.steps in
    rw step.2 (
      row_next inv.0 step.0,
      wrote inv.1 (rows_on step.0 _ _ _ _ _ _ (rw step.1 at (sym c.if-flag.ensures)) c.part.ensures) c.put_row-at.ensures,
    )

pub loop-i-preserved : goal.loop-i-preserved
loop-i-preserved c =
    let inv = c.loop-i.invariant in let step = c.in-Some.ensures.steps in
    rw step.2 (row_next inv.0 step.0, passed inv.1 (rows_pass step.0 _ _ _ _ _ _ (rw step.1 at (sym c.if-flag.ensures))))

pub returns : goal.returns
unfolding rows_kinded rows_from
returns c = finish c.loop-i.invariant.1 (rows_end _ _ _ _ _ _ c.in-None.ensures.steps.0.0)
