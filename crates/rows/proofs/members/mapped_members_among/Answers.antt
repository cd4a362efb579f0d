-- The images of the member rows of the first i elements are in the table; as these rows are at most i, there is room for another.
use Prim.Native.Nat.{◌<◌}
use native.Mathlib.Omega.{arith}
use mathlib.Core.Path.{refl}
use borrow.Author.Rules.{rules}
use lib.ListN.{length}
use Rattle.laws.proofs.Lists.{any_mem}
use Rattle.records.proofs.Results.{passed_on}
use Rattle.rule.specs.Element.{element_from}
use Rattle.rule.specs.Map.{pairs_from}
use Rattle.rows.specs.Table.{row_lacks}
use Rattle.rows.proofs.TableLaws.{filled_none, filled_more}
use Rattle.rows.proofs.MemberLaws.{with_parents, without_parents, member_skip, member_next, member_mem, here_mem, member_short, no_rows}
use Rattle.rows.proofs.members.mapped_members_among.Goals as goal

pub loop-i-init : goal.loop-i-init
loop-i-init c = (omega arith, rw no_rows (filled_none _ refl), record { symbols = search rules; els = search rules })

pub loop-i-preserved-then-count-eq0 : goal.loop-i-preserved-then-count-eq0
loop-i-preserved-then-count-eq0 c =
    let none = without_parents (element_from c.element-e.result) c.count.ensures c.if-count-eq0.true in
    (search rules, rw (member_skip c.args.els.now c.loop-i.i (search rules) c.element-e.ensures none) c.loop-i.invariant.1, c.loop-i.invariant.2)

pub add_image-requires : goal.add_image-requires
add_image-requires c =
    let few = c.count-i-end.ensures.sound.few in
    let below : c.loop-i.i < length c.args.els.now = search rules in
    let parents = c.requires.few _ (here_mem c.args.els.now c.loop-i.i below c.element-e.ensures) in
    (omega (arith, c.loop-i.invariant.0), member_short _ parents c.member_line.ensures)

pub returns-in_err-add_image-clause-imaged : goal.returns-in_err-add_image-clause-imaged
returns-in_err-add_image-clause-imaged c =
    let some = with_parents (element_from c.element-e.result) c.count.ensures c.if-count-eq0.false in
    let mem = member_mem c.args.els.now c.loop-i.i (search rules) c.element-e.ensures some in
    let lacks = c.in_err-add_image.ensures.adds.is in
    rw (passed_on c.from_residual.ensures)
    (record { is = (lacks.0, any_mem (row_lacks (pairs_from c.args.m.now)) _ mem (rw c.member_line.ensures.elements at lacks.1)) })

pub loop-i-preserved : goal.loop-i-preserved
loop-i-preserved c =
    let some = with_parents (element_from c.element-e.result) c.count.ensures c.if-count-eq0.false in
    let added = c.in_ok-add_image.ensures.adds.is in
    let next = member_next c.args.els.now c.loop-i.i (search rules) c.element-e.ensures some in
    let filled = filled_more c.loop-i.invariant.1 c.member_line.ensures added.0 added.1 in
    (omega (arith, c.loop-i.invariant.0, added.1.count), rw next filled, c.in_ok-add_image.ensures.sized)
