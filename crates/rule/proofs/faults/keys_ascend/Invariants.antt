use mathlib.Core.Path.{◌≡◌}
use Rattle.definition.specs.Rule.{keys_ascend}
use Rattle.rule.specs.Pairs.{pairs_in_bytes}
use Rattle.rule.proofs.PairLaws.{keys_from}
use Rattle.rule.proofs.faults.keys_ascend.Given as goal

abbrev pub invariant-loop-p : goal.invariant-loop-p
invariant-loop-p l = keys_ascend (pairs_in_bytes l.pairs) ≡ keys_from l.pairs l.p
