-- The first `count` of `vars` are the variables of e's keys among the first p pairs (`FiberTo`); as count ≤ p, there is room. A pair of
-- another image is passed (`fiber_pass`); of one of e the key's variable is the next (`fiber_next`). After all pairs they are the whole
-- fiber (`fiber_end`).
use Prim.Native.Nat.{◌<◌}
use lib.ListN.{length}
use borrow.Author.Rules.{rules}
use Rattle.rule.specs.Map.{pairs_from}
use Rattle.statements.proofs.Fibers.{fiber_start, fiber_pass, fiber_next, fiber_end}
use Rattle.statements.proofs.equalities.fiber_vars.Goals.{else-eq, then-eq}
use Rattle.statements.proofs.equalities.fiber_vars.Goals as goal

pub loop-p-init : goal.loop-p-init
loop-p-init c = fiber_start _ _ _ (search rules)

pub loop-p-preserved : goal.loop-p-preserved
loop-p-preserved c =
    let l : c.loop-p.p < length (pairs_from c.args.m.now) = search rules in let i = c.loop-p.invariant in
    elim c.if-eq.branch [
      | then-eq x ↦ rw (x.vars-is, x.count-is) (
          fiber_next i l c.count-p-end.ensures.few.few (rw c.image.ensures at x.if-eq.ensures) x.key.ensures x.var_of.ensures)
      | else-eq x ↦ rw (x.vars-is, x.count-is) (fiber_pass i l (rw c.image.ensures at x.if-eq.ensures))
    ]

pub returns-clause-vars_value : goal.returns-clause-vars_value
returns-clause-vars_value c = fiber_end c.loop-p.invariant (search rules)
