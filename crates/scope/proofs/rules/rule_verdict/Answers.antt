use mathlib.Core.Path.{◌≡◌, refl}
use native.Mathlib.Omega.{arith}
use Rattle.records.proofs.Results.{passed_on}
use Rattle.scope.proofs.InOrder.{by_sides}
use Rattle.scope.specs.declared.answers.Verdict.TheVariants.{Open, Global}
use Rattle.scope.proofs.rules.rule_verdict.Goals as goal

pub returns-in_err-v : goal.returns-in_err-v
returns-in_err-v c = λ x w.
    rw (passed_on c.from_residual.ensures) (by_sides c.args.own.now w (rw c.in_err-v.was at c.section_verdict.ensures) refl)

pub returns-then-ne : goal.returns-then-ne
returns-then-ne c = λ x w.
    let g : c.in_ok-v.v ≡ Global = grind arith in
    rw g (by_sides c.args.own.now w (rw (c.in_ok-v.was, g) at c.section_verdict.ensures) refl)

pub returns : goal.returns
returns c = λ x w.
    let o : c.in_ok-v.v ≡ Open = grind arith in
    by_sides c.args.own.now w (rw (c.in_ok-v.was, o) at c.section_verdict.ensures) c.section_verdict-2.ensures
