use Rattle.records.proofs.Results.{passed_on}
use Rattle.rule.proofs.Soundness.{formed_seen}
use Rattle.kinds.proofs.New.{preds_short, funcs_short, preds_new, funcs_new, adds_preds, adds_funcs, adds_members, adds_all}
use Rattle.kinds.proofs.added.added_link_rows.Goals as goal

pub new_section-requires-clause-short : goal.new_section-requires-clause-short
new_section-requires-clause-short c =
    rw c.pred_rows.ensures (preds_short (formed_seen c.source.invariant c.source.view_is))

pub new_section-requires-clause-short_2 : goal.new_section-requires-clause-short_2
new_section-requires-clause-short_2 c =
    rw c.pred_rows-2.ensures (preds_short (formed_seen c.target.invariant c.target.view_is))

pub new_section-requires-2-clause-short : goal.new_section-requires-2-clause-short
new_section-requires-2-clause-short c =
    rw c.func_rows.ensures (funcs_short (formed_seen c.source.invariant c.source.view_is))

pub new_section-requires-2-clause-short_2 : goal.new_section-requires-2-clause-short_2
new_section-requires-2-clause-short_2 c =
    rw c.func_rows-2.ensures (funcs_short (formed_seen c.target.invariant c.target.view_is))

pub returns-in_err-new_section : goal.returns-in_err-new_section
returns-in_err-new_section c =
    let preds = preds_new c.source-source.ensures.linked.alike
    (rw (c.pred_rows.ensures, c.pred_rows-2.ensures, c.source-source.ensures.value, c.target-target.ensures.value, c.map.ensures.value) at
    c.in_err-new_section.ensures) in
    rw (passed_on c.from_residual.ensures) (adds_preds _ _ _ _ preds)

pub returns-in_err-new_section-2 : goal.returns-in_err-new_section-2
returns-in_err-new_section-2 c =
    let alike = c.source-source.ensures.linked.alike in
    let preds = preds_new alike
    (rw (c.pred_rows.ensures, c.pred_rows-2.ensures, c.source-source.ensures.value, c.target-target.ensures.value, c.map.ensures.value) at
    c.in_ok-new_section.ensures) in
    let funcs = funcs_new alike
    (rw (c.func_rows.ensures, c.func_rows-2.ensures, c.source-source.ensures.value, c.target-target.ensures.value, c.map-2.ensures.value) at
    c.in_err-new_section-2.ensures) in
    rw (passed_on c.from_residual-in_err-new_section-2.ensures) (adds_funcs _ _ _ _ preds funcs)

pub returns-in_err-new_unmarked : goal.returns-in_err-new_unmarked
returns-in_err-new_unmarked c =
    let alike = c.source-source.ensures.linked.alike in
    let preds = preds_new alike
    (rw (c.pred_rows.ensures, c.pred_rows-2.ensures, c.source-source.ensures.value, c.target-target.ensures.value, c.map.ensures.value) at
    c.in_ok-new_section.ensures) in
    let funcs = funcs_new alike
    (rw (c.func_rows.ensures, c.func_rows-2.ensures, c.source-source.ensures.value, c.target-target.ensures.value, c.map-2.ensures.value) at
    c.in_ok-new_section-2.ensures) in
    rw (passed_on c.from_residual-in_err-new_unmarked.ensures) (adds_members _ _ _ _ preds funcs c.in_err-new_unmarked.ensures)

pub returns : goal.returns
returns c =
    let alike = c.source-source.ensures.linked.alike in
    let preds = preds_new alike
    (rw (c.pred_rows.ensures, c.pred_rows-2.ensures, c.source-source.ensures.value, c.target-target.ensures.value, c.map.ensures.value) at
    c.in_ok-new_section.ensures) in
    let funcs = funcs_new alike
    (rw (c.func_rows.ensures, c.func_rows-2.ensures, c.source-source.ensures.value, c.target-target.ensures.value, c.map-2.ensures.value) at
    c.in_ok-new_section-2.ensures) in
    adds_all _ _ _ _ preds funcs c.in_ok-new_unmarked.ensures
