use Rattle.std.proofs.Common.{sym, ◌∙◌}
use Rattle.kinds.proofs.Answers.{masks_clash, masks_added}
use Rattle.kinds.proofs.morphisms.new_masks.Goals as goal

pub returns-then-clashes-clause-value : goal.returns-then-clashes-clause-value
returns-then-clashes-clause-value c = λ sig table t. masks_clash _ table (sym (c.clashes.ensures.value table t) ∙ c.if-clashes.true)

pub returns-clause-value : goal.returns-clause-value
returns-clause-value c =
    let link = c.link.ensures in
    let added = rw (link.source, link.target, link.pairs) at c.added_link_rows.ensures in
    λ sig table t. masks_added _ table c.added_link_rows.result (sym (c.clashes.ensures.value table t) ∙ c.if-clashes.false) added
