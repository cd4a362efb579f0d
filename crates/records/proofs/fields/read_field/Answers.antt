use borrow.Author.Tests.{lt-ltb, le-ltb}
use Rattle.records.specs.Places.{field_at}
use Rattle.records.proofs.fields.read_field.Goals as goal

pub returns-then-saturating_sub-lt3-clause-value : goal.returns-then-saturating_sub-lt3-clause-value
unfolding field_at
returns-then-saturating_sub-lt3-clause-value c = simp (← c.saturating_sub.ensures, lt-ltb _ _ c.if-saturating_sub-lt3.true)

pub returns-then-s-start-clause-value : goal.returns-then-s-start-clause-value
unfolding field_at
returns-then-s-start-clause-value c =
    simp (← c.saturating_sub.ensures, le-ltb _ _ c.if-saturating_sub-lt3.false, ← c.two-len.ensures.value, lt-ltb _ _ c.if-s-start.true)

pub returns-clause-value : goal.returns-clause-value
unfolding field_at
returns-clause-value c =
    simp (← c.saturating_sub.ensures, le-ltb _ _ c.if-saturating_sub-lt3.false, ← c.two-len.ensures.value, le-ltb _ _ c.if-s-start.false)
