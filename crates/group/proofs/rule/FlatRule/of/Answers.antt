use native.Mathlib.Omega.{arith}
use Rattle.group.proofs.Values.{rules_length}
use Rattle.group.proofs.Sections.{rule_stands, premise_says, conclusion_says, first_stands}
use Rattle.group.proofs.rule.FlatRule.of.Goals as goal

pub rule_sections-at-requires-clause-k_lt_rules : goal.rule_sections-at-requires-clause-k_lt_rules
rule_sections-at-requires-clause-k_lt_rules c = rw (rules_length c.group.invariant.rule) at (rw (← c.group.view_is) at c.requires)

pub invariant_of-result : goal.invariant_of-result
invariant_of-result c =
    let listed = rw (rules_length c.group.invariant.rule) at (rw (← c.group.view_is) at c.requires) in
    record {
      stands = rule_stands c.group.invariant listed c.rule_sections-at.ensures.sections_at;
      small = omega (arith, c.rule_sections-at.ensures.small);
    }

pub returns-clause-says : goal.returns-clause-says
returns-clause-says c =
    let listed = rw (rules_length c.group.invariant.rule) at (rw (← c.group.view_is) at c.requires) in
    record {
      premise = rw (← c.group.view_is) (premise_says c.group.invariant listed c.rule_sections-at.ensures.sections_at);
      conclusion = rw (← c.group.view_is) (conclusion_says c.group.invariant listed c.rule_sections-at.ensures.sections_at);
    }

pub returns-clause-first : goal.returns-clause-first
returns-clause-first c =
    let listed = rw (rules_length c.group.invariant.rule) at (rw (← c.group.view_is) at c.requires) in
    λ some. rw (← c.group.view_is)
    (first_stands c.group.invariant listed c.rule_sections-at.ensures.sections_at c.rule_sections-at.ensures.conclusions_value some)
