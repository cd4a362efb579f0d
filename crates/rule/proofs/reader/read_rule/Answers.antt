-- What `index_rule` told: its refusal is passed on, and its index is that of the rule.
use mathlib.Core.Path.{sym}
use Rattle.records.proofs.Results.{passed_on}
use Rattle.rule.specs.Lookup.{rule_at}
use Rattle.rule.proofs.reader.read_rule.Goals as goal

pub returns-in_err-structures-clause-value : goal.returns-in_err-structures-clause-value
returns-in_err-structures-clause-value c = rw (passed_on c.from_residual.ensures) c.in_err-structures.ensures.value

pub returns-clause-value : goal.returns-clause-value
returns-clause-value c = c.in_ok-structures.ensures.value

pub invariant_of-result : goal.invariant_of-result
unfolding rule_at
invariant_of-result c = record {
  read = sym c.in_ok-structures.ensures.value;
  indexed = c.in_ok-structures.ensures.usable;
  small = c.small_arities.ensures;
}
