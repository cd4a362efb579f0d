use Rattle.writer.proofs.Ruling.{reached_first, reached_sourced, reached_later}
use Rattle.writer.proofs.premise.reached_by.Goals as goal

pub returns-then-t-eq0 : goal.returns-then-t-eq0
returns-then-t-eq0 c = reached_first _ _ _ c.if-t-eq0.true

pub returns-in_err-source : goal.returns-in_err-source
returns-in_err-source c = rw c.from_residual.ensures (reached_sourced _ _ _ c.in_err-source.was c.requires.1)

pub returns : goal.returns
returns c = rw c.from.ensures (reached_later _ _ _ c.if-t-eq0.false c.requires c.in_ok-source.was)
