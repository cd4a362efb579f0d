use mathlib.Core.Path.{sym, ◌∙◌}
use borrow.Author.Rules.{rules}
use Rattle.rule.specs.Element.{element_from}
use Rattle.rows.proofs.MemberLaws.{with_parents, without_parents, some_here, some_later, some_end}
use Rattle.rows.proofs.members.has_members_among.Goals as goal

pub returns-then-count-ne0 : goal.returns-then-count-ne0
returns-then-count-ne0 c =
    let some = with_parents (element_from c.element.result) c.count.ensures c.if-count-ne0.true in
    sym (c.loop-i.invariant ∙ some_here c.args.els.now c.loop-i.i (search rules) c.element.ensures some)

pub loop-i-preserved : goal.loop-i-preserved
loop-i-preserved c =
    let none = without_parents (element_from c.element.result) c.count.ensures c.if-count-ne0.false in
    c.loop-i.invariant ∙ some_later c.args.els.now c.loop-i.i (search rules) c.element.ensures none

pub returns : goal.returns
returns c = sym (c.loop-i.invariant ∙ some_end c.args.els.now c.loop-i.i (search rules))
