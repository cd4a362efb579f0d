use mathlib.Core.Path.{sym, ◌∙◌}
use Rattle.records.proofs.Tail.{nothing, lent}
use Rattle.statements.proofs.Elements.{type_given, type_ungiven}
use Rattle.statements.proofs.members.put_type_set.Goals as goal

pub returns-then-count-ne0 : goal.returns-then-count-ne0
returns-then-count-ne0 c =
    rw (← (type_ungiven _ c.args.numbered.ascend c.requires.1 c.element-e.ensures.value _ _ (λ z. c.if-count-ne0.true (c.count.ensures ∙ z))))
    (nothing _ _ c.requires.0)

pub returns : goal.returns
returns c =
    rw (type_given _ c.args.numbered.ascend c.requires.1 c.element-e.ensures.value _ _ (sym c.count.ensures ∙ c.if-count-ne0.false))
    (lent c.min-rest.ensures c.write_type_set-len.ensures c.past.ensures c.requires.0)
