-- The new element is e (`number`), and `yielding_row` was asked of the target's A rows (`yields`). No row yields e: 29 (`no_row_lem`). An
-- argument of the row is no image: 30 (`outside`), since the flags that `all_flagged_among` asks are those of the images (`all_images`). Else
-- the step adds that row's flag only (`yielded`).
use Rattle.std.proofs.Common.{◌∙◌}
use Rattle.definition.specs.Names.{numbers_of}
use Rattle.records.specs.declared.refusal.Refusal.TheVariants.{NotYielded}
use Rattle.records.proofs.Results.{passed_on, was_none, was_some, which_err}
use Rattle.kinds.specs.Edges.{edge_by, step_with}
use Rattle.kinds.proofs.Domains.{no_row_lem, outside, yielded, found_few, funcs_named, all_images}
use Rattle.kinds.proofs.morphisms.yielding_step.Goals as goal

pub returns-in_err-y : goal.returns-in_err-y
unfolding numbers_of
returns-in_err-y c =
    let value = c.target-target.ensures.value in
    let number = rw (c.elements-elements.ensures.value, value) at c.element_number-e.ensures in
    let told = c.ok_or.ensures.value in
    let yields = rw (was_none NotYielded told c.in_err-y.was, c.func_rows.ensures, value) at c.yielding_row.ensures in
    rw (passed_on c.from_residual.ensures, which_err NotYielded c.yielding_row.result told c.in_err-y.was)
    (λ sig table sourcevars types one. no_row_lem _ table (rw (← number) at one) yields)

pub returns-then-not-all_flagged_among : goal.returns-then-not-all_flagged_among
unfolding numbers_of
returns-then-not-all_flagged_among c =
    let value = c.target-target.ensures.value in
    let number = rw (c.elements-elements.ensures.value, value) at c.element_number-e.ensures in
    let yields = rw (was_some NotYielded c.ok_or.ensures.value c.in_ok-y.was, c.func_rows.ensures, value) at c.yielding_row.ensures in
    let flagged = rw (c.elements-elements.ensures.value, value) at c.all_flagged_among.ensures in
    let named = rw value at (funcs_named c.target.invariant c.target.view_is) in
    let images = (rw (c.count.ensures.count_value, c.elements-elements.ensures.value, value) at c.images_in-images.ensures)
    ∙ c.requires.landed.images in
    λ sig table sourcevars types one.
    let step = step_with sig (edge_by c.args.link.now sourcevars c.args.targetvars.now types) in
    outside step table (rw (← number) at one) yields
    (all_images step yields c.images_in-images.result named c.arguments.ensures images flagged) c.if-not-all_flagged_among.true

pub returns : goal.returns
unfolding numbers_of
returns c =
    let value = c.target-target.ensures.value in
    let number = rw (c.elements-elements.ensures.value, value) at c.element_number-e.ensures in
    let yields = rw (was_some NotYielded c.ok_or.ensures.value c.in_ok-y.was, c.func_rows.ensures, value) at c.yielding_row.ensures in
    let flagged = rw (c.elements-elements.ensures.value, value) at c.all_flagged_among.ensures in
    let named = rw value at (funcs_named c.target.invariant c.target.view_is) in
    let images = (rw (c.count.ensures.count_value, c.elements-elements.ensures.value, value) at c.images_in-images.ensures)
    ∙ c.requires.landed.images in
    let formed = rw value at c.elements-elements.ensures.formed in
    λ sig table sourcevars types one.
    let step = step_with sig (edge_by c.args.link.now sourcevars c.args.targetvars.now types) in
    rw c.one_flag.ensures (yielded step table (rw (← number) at one) yields
    (all_images step yields c.images_in-images.result named c.arguments.ensures images flagged)
    (found_few step yields formed) c.if-not-all_flagged_among.false)
