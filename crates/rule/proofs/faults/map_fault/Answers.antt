use native.Mathlib.Omega.{arith}
use borrow.Author.Rules.{rules}
use Rattle.std.proofs.Common.{sym, ◌∙◌}
use Rattle.definition.specs.Base.{lowest}
use Rattle.rule.proofs.Drawn.{ends_known, map_tests}
use Rattle.rule.proofs.faults.map_fault.Goals as goal

pub has_pairs-requires : goal.has_pairs-requires
has_pairs-requires c =
    let named = ends_known _ _ (sym c.ends_named.ensures ∙ c.if-not-ends_named.false) (search rules) in
    let source = named.0 in
    let target = named.1 in
    search rules

pub returns-then-not-has_pairs : goal.returns-then-not-has_pairs
unfolding lowest
returns-then-not-has_pairs c = λ letter before. rw (map_tests c.args.known.now) (grind arith)

pub returns-then-first_not_above : goal.returns-then-first_not_above
unfolding lowest
returns-then-first_not_above c = λ letter before. rw (map_tests c.args.known.now) (let above = c.first_not_above.ensures letter before in grind arith)

pub returns-then-not-keys_ascend : goal.returns-then-not-keys_ascend
unfolding lowest
returns-then-not-keys_ascend c = λ letter before. rw (map_tests c.args.known.now) (let above = c.first_not_above.ensures letter before in grind arith)

pub returns : goal.returns
unfolding lowest
returns c = λ letter before. rw (map_tests c.args.known.now) (let above = c.first_not_above.ensures letter before in grind arith)
