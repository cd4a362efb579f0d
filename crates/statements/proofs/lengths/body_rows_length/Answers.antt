-- Behind the first i rows the loop has counted those of them that are flagged, for any letter and variables (Counting).
use mathlib.Core.List.{[]}
use mathlib.Core.Path.{◌≡◌, sym, ap}
use lib.ListN.{length}
use Rattle.definition.specs.Rule.{Row}
use Rattle.rule.specs.Els.{els_in}
use Rattle.rule.specs.Row.{row_from}
use Rattle.statements.specs.Parts.{rows_kinded, part_as}
use Rattle.statements.proofs.Counting.{count_on, count_pass, count_end}
use Rattle.statements.proofs.Rows.{row_next, row_few, part_many, rows_longer, rows_pass, rows_end, rows_from}
use Rattle.statements.proofs.Unsaid.{unsaid, rows_none}
use Rattle.statements.proofs.lengths.body_rows_length.Goals as goal

pub returns-then-none_set-clause-by_index : goal.returns-then-none_set-clause-by_index
returns-then-none_set-clause-by_index c =
    λ letter kinds side q. (unsaid [] letter (rows_none side _ (sym c.if-none_set.ensures) kinds _) c.requires).size

pub counted-at-requires : goal.counted-at-requires
counted-at-requires c =
    let e : els_in c.part.result.els ≡ (part_as c.args.said (row_from c.in-Some.row)).elements = ap (λ (r : Row). r.elements) c.part.ensures in
    (c.loop-i.invariant.1, rw (c.count.ensures, e) (row_few c.loop-i.invariant.0 c.in-Some.ensures.steps.0 c.args.said))

pub loop-i-preserved-then-flag : goal.loop-i-preserved-then-flag
loop-i-preserved-then-flag c =
    let inv = c.loop-i.invariant in let step = c.in-Some.ensures.steps in
    rw step.2 (
      row_next inv.0 step.0,
      c.counted-at.ensures.upper_bound,
      λ letter variable kinds. count_on (inv.2 letter variable kinds) _
          (rows_longer step.0 letter variable kinds _ _ _ (rw step.1 at (sym c.if-flag.ensures)) c.part.ensures)
          (c.counted-at.ensures.by_index letter _ (part_many variable _ c.count.ensures)),
    )

pub loop-i-preserved : goal.loop-i-preserved
loop-i-preserved c =
    let inv = c.loop-i.invariant in let step = c.in-Some.ensures.steps in
    rw step.2 (
      row_next inv.0 step.0,
      inv.1,
      λ letter variable kinds. count_pass (inv.2 letter variable kinds) (ap length (rows_pass step.0 _ _ _ _ _ _ (rw step.1 at (sym c.if-flag.ensures)))),
    )

pub returns-clause-by_index : goal.returns-clause-by_index
unfolding rows_from rows_kinded
returns-clause-by_index c =
    let inv = c.loop-i.invariant in
    λ letter kinds side q. rw q (count_end (inv.2 letter _ kinds) (ap length (rows_end _ _ _ _ _ _ c.in-None.ensures.steps.0.0)) inv.1)
