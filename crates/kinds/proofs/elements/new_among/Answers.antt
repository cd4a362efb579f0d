use Rattle.std.proofs.Common.{sym, ◌∙◌, arith}
use lib.Seq.{length-take-le}
use Rattle.rows.proofs.Places.{listed_many}
use Rattle.kinds.proofs.Fresh.{kept_front}
use Rattle.kinds.proofs.elements.new_among.Goals as goal

pub returns : goal.returns
returns c =
    let few = c.count.ensures.sound.few in
    let many = c.count.ensures.count_value in
    let front = length-take-le c.count.result c.args.row.now (omega arith) in
    λ p k. c.new_in_row.ensures p _ (front ∙ many ∙ sym (listed_many c.args.els.now))
    (rw (kept_front c.args.first c.count.result c.args.row.now (omega arith), many) k)
