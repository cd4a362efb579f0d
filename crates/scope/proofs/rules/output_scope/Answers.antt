use mathlib.Core.Path.{refl, sym, ◌∙◌}
use native.Mathlib.Omega.{arith}
use Rattle.records.proofs.Results.{passed_on}
use Rattle.scope.proofs.Prefixes.{long_enough, taken_long, taken_named}
use Rattle.scope.proofs.InOrder.{output_long}
use Rattle.scope.proofs.rules.output_scope.Goals as goal

pub overflow_mul-own : goal.overflow_mul-own
overflow_mul-own c = let h = long_enough c.args.t.variables.now _ (rw c.count.ensures at c.if-count.false) in omega (arith, c.ranges.t)

pub slice_bounds-own-end : goal.slice_bounds-own-end
slice_bounds-own-end c = taken_long _ _ (long_enough _ _ (rw c.count.ensures at c.if-count.false))

pub invariant_of-own : goal.invariant_of-own
invariant_of-own c =
    record {
      typed = c.in-Some.ensures.named;
      counted = sym (taken_long _ _ (long_enough _ _ (rw c.count.ensures at c.if-count.false))) ∙ rw c.owner_count-count.ensures refl;
      named = taken_named _ _ c.requires.sound.named;
    }

pub returns-in_err-rule_verdict-clause-result_value : goal.returns-in_err-rule_verdict-clause-result_value
returns-in_err-rule_verdict-clause-result_value c = λ x w.
    rw (passed_on c.from_residual.ensures)
    (output_long _ _ _ _ _ c.args.t.variables.now _ (sym c.in-Some.ensures.result_value) c.owner_count-count.ensures
    (rw c.count.ensures at c.if-count.false) (rw c.in_err-rule_verdict.was at (c.rule_verdict.ensures x w)) _ _ c.requires.stands)

pub returns-in-Open-clause-result_value : goal.returns-in-Open-clause-result_value
returns-in-Open-clause-result_value c = λ x w.
    rw c.first_variables.ensures
    (output_long _ _ _ _ _ c.args.t.variables.now _ (sym c.in-Some.ensures.result_value) c.owner_count-count.ensures
    (rw c.count.ensures at c.if-count.false) (rw (c.in_ok-rule_verdict.was, c.in-Open.is) at (c.rule_verdict.ensures x w)) _ _ c.requires.stands)

pub returns-in-Global-clause-result_value : goal.returns-in-Global-clause-result_value
returns-in-Global-clause-result_value c = λ x w.
    output_long _ _ _ _ _ c.args.t.variables.now _ (sym c.in-Some.ensures.result_value) c.owner_count-count.ensures
    (rw c.count.ensures at c.if-count.false) (rw (c.in_ok-rule_verdict.was, c.in-Global.is) at (c.rule_verdict.ensures x w)) _ _ c.requires.stands
