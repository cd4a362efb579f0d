use Rattle.std.proofs.Common.{sym, ◌∙◌}
use Rattle.rule.specs.Rows.{member_rows}
use Rattle.rows.proofs.TableLaws.{holds_of, images_few}
use Rattle.kinds.proofs.New.{no_members, members_new, members_few}
use Rattle.kinds.proofs.added.new_unmarked.Goals as goal

pub returns-then-not-has_members_among-2 : goal.returns-then-not-has_members_among-2
returns-then-not-has_members_among-2 c =
    no_members c.args.link.now.source c.args.link.now.target c.args.link.now.pairs c.args.marks.now
    (rw (c.elements-source.ensures.value, c.source.ensures.value) at (sym c.has_members_among.ensures ∙ c.if-not-has_members_among.true))
    (rw (c.elements-target.ensures.value, c.target.ensures.value) at
    (sym c.has_members_among-then-not-has_members_among.ensures ∙ c.if-not-has_members_among-2.true))

pub new_members_among-new-requires-clause-images : goal.new_members_among-new-requires-clause-images
new_members_among-new-requires-clause-images c =
    images_few c.in_ok-mapped_members_among.ensures.imaged (rw c.elements-source.ensures.value (members_few c.elements-source.ensures.formed))

pub returns : goal.returns
returns c =
    let l = c.args.link.now in
    let alike = c.source.ensures.linked.alike in
    let i = rw (c.elements-source.ensures.value, c.source.ensures.value, c.map.ensures.value) at c.in_ok-mapped_members_among.ensures.imaged in
    let f = rw (c.elements-target.ensures.value, c.target.ensures.value) at c.new_members_among-new.ensures in
    members_new l.source l.target l.pairs c.args.marks.now i (rw (c.elements-target.ensures.value, c.target.ensures.value) at c.count.ensures.count_value)
    (f _ l.pairs (member_rows l.source.elements) (holds_of i alike.source_members) alike.target_members) c.packed_less.ensures
