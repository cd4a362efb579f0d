use native.Mathlib.Omega.{arith}
use borrow.Author.Rules.{rules}
use Rattle.records.specs.Places.{stretch}
use Rattle.rule.proofs.SectionParts.{run_inside, part_none, part_some, lies_some}
use Rattle.rule.proofs.sections.part_of.Goals.{then-section-via-then-section, then-section-via-else-section+then-s-section}
use Rattle.rule.proofs.sections.part_of.Goals as goal

pub returns-then-section-clause-fields : goal.returns-then-section-clause-fields
returns-then-section-clause-fields c = λ fs r. elim c.then-section.branch [
  | then-section-via-then-section w ↦ part_none _ r w.if-section.true (search rules)
  | then-section-via-else-section+then-s-section w ↦ let h = run_inside r w.if-section.false in absurd (omega (arith, w.if-s-section.true))
]

pub returns-clause-fields : goal.returns-clause-fields
unfolding stretch
returns-clause-fields c = λ fs r. part_some r (search rules)

pub returns-clause-lies : goal.returns-clause-lies
returns-clause-lies c = lies_some _ _ _ (search rules) (search rules)
