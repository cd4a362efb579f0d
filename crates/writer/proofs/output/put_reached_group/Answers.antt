use mathlib.Core.Path.{refl, sym}
use Rattle.statements.proofs.Counting.{beyond}
use Rattle.writer.proofs.Groups.{group_put}
use Rattle.writer.proofs.Naming.{numbered, variables_put}
use Rattle.writer.proofs.output.put_reached_group.Goals as goal

pub put_new_variables-varied-requires-clause-from_le_count_limit : goal.put_new_variables-varied-requires-clause-from_le_count_limit
put_new_variables-varied-requires-clause-from_le_count_limit c = (c.put_group_name_of-named.ensures.upper_bound, rw (← c.r.view_is) at c.requires.counted)

pub put_new_variables-varied-requires-clause-numbered : goal.put_new_variables-varied-requires-clause-numbered
put_new_variables-varied-requires-clause-numbered c = numbered c.r.invariant

pub returns-then-out-varied-clause-put : goal.returns-then-out-varied-clause-put
returns-then-out-varied-clause-put c = λ state e.
    let name = sym c.name-name.ensures.value in let index = sym c.unnamed_index-index.ensures in
    let rules = beyond _ (c.reached_rules_length.ensures.put state e).size c.if-out-varied.true c.put_new_variables-varied.ensures.upper_bound in
    group_put _ state (c.group_name_length_of.ensures.value _ name index) c.put_group_head-head.ensures
    (c.put_group_name_of-named.ensures.put _ name index)
    (variables_put _ c.r.view_is e c.requires.counted (c.put_new_variables-varied.ensures.put _ refl refl)) rules

pub returns-clause-put : goal.returns-clause-put
returns-clause-put c = λ state e.
    let name = sym c.name-name.ensures.value in let index = sym c.unnamed_index-index.ensures in
    group_put _ state (c.group_name_length_of.ensures.value _ name index) c.put_group_head-head.ensures
    (c.put_group_name_of-named.ensures.put _ name index)
    (variables_put _ c.r.view_is e c.requires.counted (c.put_new_variables-varied.ensures.put _ refl refl)) (c.put_reached_rules.ensures.put state e)
