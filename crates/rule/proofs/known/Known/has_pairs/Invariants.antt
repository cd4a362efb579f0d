use mathlib.Core.Path.{◌≡◌}
use Rattle.definition.specs.Base.{all}
use Rattle.definition.specs.Rule.{elements_at}
use Rattle.rule.specs.Faults.{pair_named}
use Rattle.rule.specs.Pairs.{pairs_in_bytes}
use Rattle.rule.proofs.PairLaws.{all_pairs}
use Rattle.rule.proofs.known.Known.has_pairs.Given as goal

abbrev pub invariant-loop-p : goal.invariant-loop-p
invariant-loop-p l =
    let named = pair_named (elements_at l.self l.source) (elements_at l.self l.target) in
    all named (pairs_in_bytes l.pairs) ≡ all_pairs l.pairs named l.p
