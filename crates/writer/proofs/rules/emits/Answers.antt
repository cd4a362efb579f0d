use mathlib.Core.Path.{ap}
use Rattle.walk.specs.Reached.{reach_of}
use Rattle.walk.specs.Walked.{Walks}
use Rattle.writer.proofs.Ruling.{places_in, emits_concluded}
use Rattle.writer.proofs.rules.emits.Goals as goal

pub emits_by_tables-requires : goal.emits_by_tables-requires
emits_by_tables-requires c =
    let e : Walks c.args.w.now = rw (← c.w.view_is) c.w.invariant in places_in (ap reach_of c.w.view_is) c.args.t e c.requires

pub returns : goal.returns
returns c = emits_concluded (ap reach_of c.w.view_is) c.args.t c.args.w.now.state c.emits_by_tables.ensures c.kinds.ensures
