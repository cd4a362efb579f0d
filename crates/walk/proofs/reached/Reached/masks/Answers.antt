use mathlib.Core.Path.{refl}
use Rattle.walk.specs.Tables.{masks_at, merged_at}
use Rattle.walk.proofs.reached.Reached.masks.Goals as goal

pub returns-clause-said : goal.returns-clause-said
unfolding masks_at
returns-clause-said c = rw (← c.self.view_is) refl

pub returns-clause-merged : goal.returns-clause-merged
unfolding merged_at
returns-clause-merged c = rw (← c.self.view_is) refl
