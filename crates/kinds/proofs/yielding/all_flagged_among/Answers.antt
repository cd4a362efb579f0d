-- The answer for the whole list is that for its elements from the j-th on (`all_from`). The flag at an element's place is p of it: unset, it
-- answers false (`all_stop`); set, those behind it answer (`all_more`); none left is true. The caller says that all are named, so the return
-- for one that is not found is never reached (`all_named`).
use Rattle.std.proofs.Common.{sym, ◌∙◌, arith, refl}
use lib.Seq.{length-take-le}
use Rattle.records.proofs.Along.{all_start, all_end}
use Rattle.rule.specs.Els.{els_in}
use Rattle.kinds.proofs.Seeking.{all_more, all_stop, all_named, listed_many, found_listed}
use Rattle.kinds.proofs.yielding.all_flagged_among.Goals as goal

pub loop-j-init : goal.loop-j-init
loop-j-init c = λ p f n. all_start p _

pub returns-in_default : goal.returns-in_default
returns-in_default c = λ p f n. all_named (els_in c.args.l) _ (omega arith) c.at.ensures n c.in_default.ensures

pub bounds-given-i : goal.bounds-given-i
bounds-given-i c =
    let few = c.count.ensures.sound.few in
    let below = found_listed c.args.elements.now c.in-Some.ensures in
    let l = length-take-le c.count.result c.args.flags.now (omega arith) in omega arith

pub returns-then-not-given-i : goal.returns-then-not-given-i
returns-then-not-given-i c =
    let numbers = listed_many c.args.elements.now in
    let many = c.count.ensures.count_value ∙ sym numbers in
    λ p f n.
    sym (c.loop-j.invariant p f n
    ∙ all_stop p (els_in c.args.l) c.args.flags.now many (omega arith) c.at.ensures (rw numbers f) c.in-Some.ensures c.if-not-given-i.true)

pub loop-j-preserved : goal.loop-j-preserved
loop-j-preserved c =
    let numbers = listed_many c.args.elements.now in
    let many = c.count.ensures.count_value ∙ sym numbers in
    λ p f n.
    c.loop-j.invariant p f n
    ∙ all_more p (els_in c.args.l) c.args.flags.now many (omega arith) c.at.ensures (rw numbers f) c.in-Some.ensures c.if-not-given-i.false

pub returns : goal.returns
returns c = λ p f n. sym (c.loop-j.invariant p f n ∙ all_end p (els_in c.args.l) refl (omega arith))
