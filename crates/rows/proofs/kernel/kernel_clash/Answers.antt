use mathlib.Core.Path.{sym, ◌∙◌}
use borrow.Author.Rules.{rules}
use Rattle.rows.proofs.KernelLaws.{keys_on, keys_end, later_all, types_of, clash_is}
use Rattle.rows.proofs.kernel.kernel_clash.Goals as goal

pub returns-then-clashes_later : goal.returns-then-clashes_later
returns-then-clashes_later c =
    λ table source target v t named. let f = types_of v t c.requires in
    sym (clash_is table source target _ named ∙ c.loop-p.invariant _ f
    ∙ keys_on _ _ _ (search rules) (c.clashes_later.ensures _ f ∙ later_all _ _ _) ∙ rw c.if-clashes_later.true)

pub loop-p-preserved : goal.loop-p-preserved
loop-p-preserved c =
    λ type f. c.loop-p.invariant type f
    ∙ keys_on type _ _ (search rules) (c.clashes_later.ensures type f ∙ later_all type _ _)
    ∙ rw c.if-clashes_later.false

pub returns : goal.returns
returns c =
    λ table source target v t named. let f = types_of v t c.requires in
    sym (clash_is table source target _ named ∙ c.loop-p.invariant _ f ∙ keys_end _ _ _ (search rules))
