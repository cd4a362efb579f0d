use borrow.Author.Tests.{eq-eqb}
use mathlib.Core.Path.{◌∙◌}
use Rattle.rule.specs.Element.{element_from}
use Rattle.rows.proofs.MemberLaws.{with_parents, without_parents, not_new, new_by_images, member_short, found_member}
use Rattle.rows.proofs.members.is_new_member.Goals as goal

pub is_image-requires : goal.is_image-requires
is_image-requires c = (c.requires.0, member_short _ c.requires.1 c.member_line.ensures)

pub returns-then-count-ne0 : goal.returns-then-count-ne0
returns-then-count-ne0 c =
    λ columns pairs sources h n. new_by_images _ pairs sources (with_parents (element_from c.args.e) c.count.ensures c.if-count-ne0.true)
    (found_member _ c.member_line.ensures c.is_image.ensures h (n (λ z. c.if-count-ne0.true (c.count.ensures ∙ z))))

pub returns-else-count-ne0 : goal.returns-else-count-ne0
returns-else-count-ne0 c =
    λ columns pairs sources h n. rw (eq-eqb _ _ c.if-count-ne0.false)
    (not_new _ pairs sources (without_parents (element_from c.args.e) c.count.ensures c.if-count-ne0.false))
