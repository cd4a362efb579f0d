-- The loop has the variables of the first i elements.
use mathlib.Core.Path.{◌≡◌, refl}
use lib.ListN.{length, length-set}
use lib.Seq.{take_all}
use borrow.Author.Rules.{rules}
use Rattle.definition.specs.Base.{each}
use Rattle.rule.specs.Els.{els_in}
use Rattle.statements.proofs.Variables.{variables_more}
use Rattle.statements.proofs.numbered.vars_among.Goals as goal

pub loop-i-init : goal.loop-i-init
unfolding each
loop-i-init c = (refl, λ structure q. refl)

pub loop-i-preserved : goal.loop-i-preserved
loop-i-preserved c =
    let inv = c.loop-i.invariant in (
      rw length-set inv.0,
      λ structure q.
          variables_more _ _ _ (search rules) (rw c.at.ensures at c.var_among.ensures structure q) _ (search rules) (inv.1 structure q),
    )

pub returns : goal.returns
returns c = λ structure q.
    let n : length (els_in c.args.els) ≡ c.loop-i.i = search rules in
    rw n (rw (take_all c.loop-i.i (els_in c.args.els) (search rules)) at c.loop-i.invariant.1 structure q)
