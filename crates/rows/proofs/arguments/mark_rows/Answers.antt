-- The loop along rows: after each row its arguments are marked with those of the rows before it.
use Rattle.rows.proofs.ArgumentLaws.{listed_first, marking_next, marking_end}
use Rattle.rows.proofs.arguments.mark_rows.Goals as goal

pub mark-requires : goal.mark-requires
mark-requires c = c.requires.listed

pub arguments-requires : goal.arguments-requires
arguments-requires c = (listed_first c.loop-row.invariant.2 c.in-Some.ensures.steps).0

pub loop-row-preserved : goal.loop-row-preserved
loop-row-preserved c =
    let step = c.in-Some.ensures.steps in (
      tt,
      tt,
      (listed_first c.loop-row.invariant.2 step).1,
      λ seen m. marking_next c.args.sig.now (c.loop-row.invariant.3 seen m) step c.arguments.ensures c.mark.ensures,
    )

pub returns : goal.returns
returns c = λ seen m. marking_end c.args.sig.now (c.loop-row.invariant.3 seen m) c.in-None.ensures.steps.0
