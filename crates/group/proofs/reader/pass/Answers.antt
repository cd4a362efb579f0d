use mathlib.Core.Path.{◌≡◌, sym, ◌∙◌}
use native.Mathlib.Omega.{arith}
use borrow.Author.Rules.{rules}
use borrow.Author.Tests.{ne_eqb}
use lib.ListN.{length}
use Rattle.group.proofs.Given.{given_here, none_there, whole_stretch}
use Rattle.group.proofs.Passing.{pass_start, pass_next, pass_stop, pass_bad, pass_end}
use Rattle.group.proofs.reader.pass.Goals as goal

pub loop-f-init : goal.loop-f-init
loop-f-init c = (
  search rules,
  search rules,
  search rules,
  rw c.into_iter-f-iterator.ensures.into_iter_gives (c.new-f-items.ensures ∙ whole_stretch _),
  pass_start _,
)

pub returns-then-not-may_follow : goal.returns-then-not-may_follow
returns-then-not-may_follow c =
    let w = c.loop-f.invariant in
    let g = given_here c.args.s.now c.loop-f.end _ w.2 (omega arith) w.3 c.in-Some.ensures.steps.1 in
    pass_stop w.4 g.there (sym c.may_follow.ensures ∙ c.if-not-may_follow.true)

pub overflow_add-end-in-loop-f : goal.overflow_add-end-in-loop-f
overflow_add-end-in-loop-f c =
    let w = c.loop-f.invariant in
    let g = given_here c.args.s.now c.loop-f.end _ w.2 (omega arith) w.3 c.in-Some.ensures.steps.1 in
    let h = g.within in search rules

pub loop-f-preserved : goal.loop-f-preserved
loop-f-preserved c =
    let w = c.loop-f.invariant in
    let g = given_here c.args.s.now c.loop-f.end _ w.2 (omega arith) w.3 c.in-Some.ensures.steps.1 in (
      search rules,
      search rules,
      g.within,
      g.left,
      pass_next w.4 g.there (sym c.may_follow.ensures ∙ c.if-not-may_follow.false),
    )

pub returns-then-end-s : goal.returns-then-end-s
returns-then-end-s c = pass_end c.loop-f.invariant.4 (omega (arith, c.if-end-s.true))

pub returns-else-end-s : goal.returns-else-end-s
returns-else-end-s c =
    let w = c.loop-f.invariant in
    let behind : c.loop-f.end ≡ length c.args.s.now → ⊥ = c.if-end-s.false in
    rw (ne_eqb _ _ behind)
    (pass_bad w.4 (omega (arith, w.2, behind)) (none_there c.args.s.now c.loop-f.end (rw w.3 at c.in-None.ensures.steps.0)))
