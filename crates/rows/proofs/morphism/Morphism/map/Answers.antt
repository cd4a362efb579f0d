use Rattle.rows.proofs.Between.{between}
use Rattle.rows.proofs.morphism.Morphism.map.Goals as goal

pub returns-clause-between : goal.returns-clause-between
returns-clause-between c = between c.args.self.now.between
