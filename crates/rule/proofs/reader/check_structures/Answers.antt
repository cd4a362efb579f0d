-- The first k structures have no fault, the index holds their elements (`Known`), and the first fault of all is that of those left
-- (`Going`). Storing elements keeps the bounds of sections (`Kept`), so the k-th head and body are where they were laid: what their checks
-- told is about them. A fault answers (`go_head`, `go_body`), else k goes on (`go_next`); at the end there is none (`go_end`).
use Rattle.records.proofs.Results.{passed_on}
use Rattle.rule.proofs.Structures.{go_end, go_head, go_body, go_next}
use Rattle.rule.proofs.Bodies.{kept_trans, known_more, known_here}
use Rattle.rule.proofs.reader.check_structures.Goals as goal

pub returns-in_err-check_head-clause-result_value : goal.returns-in_err-check_head-clause-result_value
returns-in_err-check_head-clause-result_value c =
    let inv = c.loop-k.invariant in
    λ bs w. rw (passed_on c.from_residual.ensures)
    (go_head w inv.1 _ _ (inv.3 bs w) c.loop-k-test.true inv.2 c.in_err-check_head.ensures.result_value)

pub returns-in_err-check_body-clause-result_value : goal.returns-in_err-check_body-clause-result_value
returns-in_err-check_body-clause-result_value c =
    let inv = c.loop-k.invariant in
    λ bs w. rw (passed_on c.from_residual-in_err-check_body.ensures)
    (go_body w inv.1 _ _ (inv.3 bs w) c.loop-k-test.true inv.2 c.in_ok-check_head.ensures.result_value c.in_ok-check_head.ensures.below.is
    c.in_err-check_body.ensures.result_value)

pub loop-k-preserved : goal.loop-k-preserved
loop-k-preserved c =
    let inv = c.loop-k.invariant in
    let head = c.in_ok-check_head.ensures in
    let body = c.in_ok-check_body.ensures in (
      body.index_len_2,
      kept_trans inv.1 body.stored.kept,
      known_more body.stored.kept inv.2 head.below.is body.stored.known,
      λ bs w. go_next w inv.1 _ _ (inv.3 bs w) c.loop-k-test.true inv.2 head.result_value head.below.is
          body.result_value body.stored.kept body.holds,
    )

pub returns-clause-result_value : goal.returns-clause-result_value
returns-clause-result_value c =
    let inv = c.loop-k.invariant in
    λ bs w. go_end w inv.1 _ _ (inv.3 bs w) c.loop-k-test.false c.loop-k.auto.k-end inv.2.few

pub returns-clause-all_stored : goal.returns-clause-all_stored
returns-clause-all_stored c =
    let inv = c.loop-k.invariant in record { kept = inv.1; known = known_here inv.2 c.loop-k-test.false c.loop-k.auto.k-end }
