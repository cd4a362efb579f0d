use Rattle.rows.proofs.Places.{numbers_listed}
use Rattle.statements.proofs.numbered.Numbered.vars_of.Goals as goal

pub vars_among-requires-clause-many : goal.vars_among-requires-clause-many
vars_among-requires-clause-many c = rw c.elements.ensures.value c.args.self.many

pub returns : goal.returns
returns c = c.vars_among.ensures _ (rw c.elements.ensures.value (numbers_listed _))
