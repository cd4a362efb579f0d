use Rattle.rule.proofs.Soundness.{sound_seen}
use Rattle.rows.proofs.Between.{between}
use Rattle.rows.proofs.morphism.Morphism.source.Goals as goal

pub returns-clause-sound : goal.returns-clause-sound
returns-clause-sound c = sound_seen c.source.invariant c.source.view_is

pub returns-clause-between : goal.returns-clause-between
returns-clause-between c = between c.args.self.now.between
