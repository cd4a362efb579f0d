-- The loop along rows: the images of the first ones are in the table (`Filled`), the others are left to the iterator.
use Prim.Native.Nat.{ℕ}
use mathlib.Core.Path.{refl, ◌∙◌, ap}
use borrow.Author.Rules.{rules}
use lib.ListN.{take}
use Rattle.laws.proofs.Lists.{any_mem}
use Rattle.records.proofs.Parts.{apart, took_all, drop_mem}
use Rattle.records.proofs.Results.{passed_on}
use Rattle.rule.specs.Map.{pairs_from}
use Rattle.rule.specs.Row.{rows_left}
use Rattle.rows.specs.Table.{row_lacks}
use Rattle.rows.proofs.TableLaws.{filled_none, filled_more, row_fits}
use Rattle.rows.proofs.table.mapped_rel_apps.Goals as goal

pub loop-row-init : goal.loop-row-init
loop-row-init c = (tt, tt, rw c.into_iter-row-iterator.ensures.into_iter_gives refl, filled_none _ refl, record { symbols = search rules; els = search rules })

pub add_image-requires : goal.add_image-requires
add_image-requires c = row_fits c.requires _ (c.loop-row.invariant.2 ∙ c.in-Some.ensures.steps) c.row_line.ensures

pub loop-row-preserved : goal.loop-row-preserved
loop-row-preserved c =
    let all = rows_left c.args.rows in
    let a = apart all c.loop-row.images.count (c.loop-row.invariant.2 ∙ c.in-Some.ensures.steps) in
    let added = c.in_ok-add_image.ensures.adds.is in
    let took = ap (λ (n : ℕ). take n all) added.1.count ∙ a.took in
    (tt, tt, rw added.1.count a.left, rw took (filled_more c.loop-row.invariant.3 c.row_line.ensures added.0 added.1), c.in_ok-add_image.ensures.sized)

pub returns-in_err-add_image-clause-imaged : goal.returns-in_err-add_image-clause-imaged
returns-in_err-add_image-clause-imaged c =
    let e = c.loop-row.invariant.2 ∙ c.in-Some.ensures.steps in
    let lacks = c.in_err-add_image.ensures.adds.is in
    rw (passed_on c.from_residual.ensures)
    (record { is = (lacks.0, any_mem (row_lacks (pairs_from c.args.m.now)) _ (drop_mem _ _ e) (rw c.row_line.ensures.elements at lacks.1)) })

pub returns-clause-imaged : goal.returns-clause-imaged
returns-clause-imaged c =
    let all = took_all (rows_left c.args.rows) c.loop-row.images.count (c.loop-row.invariant.2 ∙ c.in-None.ensures.steps.0) in
    let f = rw all at c.loop-row.invariant.3 in record { is = (f.fine, f.held) }
