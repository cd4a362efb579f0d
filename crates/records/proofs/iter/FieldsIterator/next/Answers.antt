use Rattle.std.proofs.Common.{length, ap, refl, rules}
use Rattle.records.proofs.FieldsIn.{none_short, given_first, step_none, step_first}
use Rattle.records.proofs.iter.FieldsIterator.next.Goals as goal

pub returns-then-rest-lt3-clause-steps : goal.returns-then-rest-lt3-clause-steps
returns-then-rest-lt3-clause-steps c = let none = none_short _ c.if-rest-lt3.true in (none, none, refl)

pub returns-then-behind-len-clause-steps : goal.returns-then-behind-len-clause-steps
returns-then-behind-len-clause-steps c =
    let none = step_none _ c.split_at.ensures.back c.two-len.ensures.value c.if-rest-lt3.false c.if-behind-len.true in (none, none, refl)

pub returns-clause-steps : goal.returns-clause-steps
returns-clause-steps c =
    let stands = step_first _ c.split_at.ensures.back c.two-len.ensures.value c.if-rest-lt3.false c.if-behind-len.false
    c.split_at-2.ensures.front c.split_at-2.ensures.back in
    (given_first _ _ stands.first, stands)

pub returns-clause-goes : goal.returns-clause-goes
returns-clause-goes c =
    let stands = step_first _ c.split_at.ensures.back c.two-len.ensures.value c.if-rest-lt3.false c.if-behind-len.false
    c.split_at-2.ensures.front c.split_at-2.ensures.back in
    let shorter = ap length (given_first _ _ stands.first) in
    search rules
