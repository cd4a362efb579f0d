use mathlib.Core.Path.{◌≡◌, refl}
use Rattle.definition.specs.Names.{numbers_of}
use Rattle.records.proofs.Results.{passed_on}
use Rattle.rule.specs.Row.{rows_left}
use Rattle.rule.specs.Views.{listed_numbers}
use Rattle.rows.proofs.Places.{numbers_listed}
use Rattle.kinds.proofs.Answers.{if_refused, if_adds}
use Rattle.kinds.proofs.morphisms.flatten_if_arbitrary_along.Goals as goal

pub returns-in_err-masks : goal.returns-in_err-masks
returns-in_err-masks c = rw (passed_on c.from_residual.ensures) (λ table t. if_refused _ table (c.in_err-masks.ensures.value c.args.sig.now table t))

pub returns : goal.returns
returns c =
    let st = c.args.edge.now.target.structure in
    let value = c.target-target.ensures in
    let same : numbers_of st ≡ listed_numbers c.elements.result = rw (c.elements.ensures.value, value) (numbers_listed st) in
    let preds : st.pred_rows ≡ rows_left c.pred_rows.result = rw (c.pred_rows.ensures, value) refl in
    let funcs : st.func_rows ≡ rows_left c.func_rows.result = rw (c.func_rows.ensures, value) refl in
    let marks = rw (c.elements.ensures.value, value) at (c.constrained_among-marks.ensures st same preds funcs) in
    let to = rw value at c.elements.ensures.formed in
    λ table t. if_adds _ table (c.in_ok-masks.ensures.value c.args.sig.now table t) c.in_ok-masks.ensures.formed to marks (c.free_els-free.ensures _ marks)
