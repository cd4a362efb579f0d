use Rattle.walk.proofs.Leaving.{found_none, found_some}
use Rattle.walk.proofs.reached.Reached.source.Goals as goal

pub returns-in_err-source : goal.returns-in_err-source
returns-in_err-source c = rw (← c.self.view_is, c.from_residual.ensures) (found_none _ c.self.invariant.ended c.args.t c.in_err-source.was)

pub returns : goal.returns
returns c = rw (← c.self.view_is, c.from.ensures) (found_some _ c.self.invariant.ended c.args.t c.in_ok-source.was)
