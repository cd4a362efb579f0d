use mathlib.Core.Path.{◌≡◌, sym, ◌∙◌}
use Rattle.records.proofs.Results.{passed_on}
use Rattle.scope.proofs.InOrder.{none_left, by_next}
use Rattle.scope.specs.declared.answers.Verdict.TheVariants.{Open, Global}
use borrow.Author.Rules.{rules}
use native.Mathlib.Omega.{arith}
use Rattle.scope.proofs.rules.section_verdict.Goals as goal

pub statement_verdict-requires : goal.statement_verdict-requires
statement_verdict-requires c = record { sound = rw c.loop-t.invariant.2 at c.in-Some.ensures.steps.sound }

pub returns-in_err-v : goal.returns-in_err-v
returns-in_err-v c =
    rw (passed_on c.from_residual.ensures)
    (sym (c.loop-t.invariant.3 ∙ by_next _ c.in-Some.ensures.steps.first (rw c.in_err-v.was at c.statement_verdict.ensures)))

pub returns-then-ne : goal.returns-then-ne
returns-then-ne c =
    let g : c.in_ok-v.v ≡ Global = grind arith in
    sym (c.loop-t.invariant.3 ∙ by_next _ c.in-Some.ensures.steps.first (rw (c.in_ok-v.was, g) at c.statement_verdict.ensures) ∙ rw g)

pub loop-t-preserved : goal.loop-t-preserved
loop-t-preserved c =
    let o : c.in_ok-v.v ≡ Open = search rules in
    let step = c.in-Some.ensures.steps in (
      search rules,
      search rules,
      step.group ∙ c.loop-t.invariant.2,
      c.loop-t.invariant.3 ∙ by_next _ step.first (rw (c.in_ok-v.was, o) at c.statement_verdict.ensures),
    )

pub returns : goal.returns
returns c = sym (c.loop-t.invariant.3 ∙ none_left _ c.in-None.ensures.steps.0)
