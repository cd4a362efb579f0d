use native.Mathlib.Omega.{arith}
use Rattle.group.proofs.Reading.{content_is, reads}
use Rattle.group.proofs.rule.StatementHere.read.Goals as goal

pub returns : goal.returns
returns c =
    let len = c.two.ensures.value in
    reads c.requires (content_is c.requires (omega (arith, len))) c.of.ensures.head c.of.ensures.variables (omega (arith, len))
