use mathlib.Core.Path.{refl}
use Rattle.walk.specs.Reached.{reach_by}
use Rattle.walk.specs.Tables.{row_at}
use Rattle.walk.proofs.Leaving.{row_typed}
use Rattle.walk.proofs.reached.Reached.row.Goals as goal

pub returns-clause-value : goal.returns-clause-value
unfolding row_at
returns-clause-value c = rw (← c.self.view_is) refl

pub returns-clause-given_out : goal.returns-clause-given_out
unfolding row_at
returns-clause-given_out c =
    let i = c.self.inside in
    rw (← c.self.view_is) (row_typed (reach_by i.bytes.now i.tables.now i.types.now) c.self.invariant.ended c.args.t)
