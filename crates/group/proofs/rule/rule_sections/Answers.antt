use Rattle.group.proofs.Sections.{sections_are}
use Rattle.group.proofs.rule.rule_sections.Goals as goal

pub returns-clause-sections_at : goal.returns-clause-sections_at
returns-clause-sections_at c =
    sections_are c.requires.rules c.requires.k_lt_rules (rw (c.two.ensures.value, c.from-at.ensures)) c.from.ensures c.from-2.ensures
