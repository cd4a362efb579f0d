-- The loop along a list of elements: the images of the first j are in the places, and an element without one ends it.
use mathlib.Core.Path.{refl, sym, ◌∙◌, ap}
use lib.ListN.{length-set}
use borrow.Author.Rules.{rules}
use Rattle.records.proofs.Results.{passed_on, was_some, was_none, which_err}
use Rattle.rule.specs.Pairs.{image_is}
use Rattle.rows.proofs.TableLaws.{mapping_start, mapping_next, mapping_stop, mapping_end}
use Rattle.rows.proofs.table.map_elements.Goals as goal

pub loop-j-init : goal.loop-j-init
loop-j-init c = (search rules, mapping_start _ _ _)

pub returns-in_err-e : goal.returns-in_err-e
returns-in_err-e c =
    let i = sym c.image_of.ensures ∙ ap image_is (was_none _ c.ok_or.ensures.value c.in_err-e.was) in
    rw (passed_on c.from_residual.ensures, which_err _ c.image_of.result c.ok_or.ensures.value c.in_err-e.was)
    record { is = (refl, mapping_stop c.loop-j.invariant.1 (search rules) c.at.ensures i) }

pub loop-j-preserved : goal.loop-j-preserved
loop-j-preserved c =
    let i = sym c.image_of.ensures ∙ ap image_is (was_some _ c.ok_or.ensures.value c.in_ok-e.was) in
    (rw length-set c.loop-j.invariant.0, mapping_next c.loop-j.invariant.1 (search rules) c.at.ensures (search rules) i)

pub returns : goal.returns
returns c = mapping_end c.loop-j.invariant.1 (search rules)
