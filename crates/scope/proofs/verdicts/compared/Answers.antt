use mathlib.Core.Path.{sym, ◌∙◌}
use Rattle.scope.proofs.Prefixes.{long_enough, taken_long, taken_named}
use Rattle.scope.proofs.verdicts.compared.Goals as goal

pub slice_bounds-same_variables-end : goal.slice_bounds-same_variables-end
slice_bounds-same_variables-end c = taken_long _ _ (long_enough _ _ (rw c.count.ensures at c.if-count.false))

pub same_variables-requires-clause-same_length : goal.same_variables-requires-clause-same_length
same_variables-requires-clause-same_length c =
    sym (taken_long _ _ (long_enough _ _ (rw c.count.ensures at c.if-count.false))) ∙ taken_long _ _ c.requires.count_bound

pub same_variables-requires-clause-named : goal.same_variables-requires-clause-named
same_variables-requires-clause-named c = (taken_named _ _ c.requires.named, taken_named _ _ c.args.own.now.named)
