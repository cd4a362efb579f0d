-- Structure 0 is a premise of its own; any other's is that of its source, which is below it, then what it adds.
use native.Mathlib.Omega.{arith}
use Rattle.writer.proofs.Premises.{premise_first, premise_later}
use Rattle.writer.proofs.premise.+put_reached_premise.Goals as goal

pub returns-in_default-clause-put : goal.returns-in_default-clause-put
returns-in_default-clause-put t c = λ state e.
    let n = (rw c.in_default.is at c.source.ensures).is in let r = c.requires.reaching.reached in absurd (omega arith)

pub returns-then-t-eq0-clause-put : goal.returns-then-t-eq0-clause-put
returns-then-t-eq0-clause-put t c = λ state e.
    let z = c.if-t-eq0.true in
    rw (premise_first c.args.r.now e c.requires.reaching z) (rw (← z) at (c.put_reached_own.ensures.put state e))

pub put_reached_premise-at-requires : goal.put_reached_premise-at-requires
put_reached_premise-at-requires t c =
    let s = (rw c.in-Some.is at c.source.ensures).is in let l = s.3 (omega arith) in
    (omega arith, (c.requires.from_le_count_limit, (c.requires.tabled, s.2)))

pub returns-clause-put : goal.returns-clause-put
returns-clause-put t c = λ state e.
    let s = (rw c.in-Some.is at c.source.ensures).is in
    premise_later c.args.r.now e c.requires.reaching c.if-t-eq0.false
    (rw s.0 at (c.put_reached_premise-at.ensures.put state e)) (c.put_reached_own-2.ensures.put state e)
