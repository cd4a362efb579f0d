use borrow.Author.Rules.{rules}
use Rattle.statements.proofs.KernelPairs.{typed_vars}
use Rattle.statements.proofs.equalities.put_fiber.Goals as goal

pub put_among-requires-clause-typed_vars : goal.put_among-requires-clause-typed_vars
put_among-requires-clause-typed_vars c = typed_vars c.requires.keys_typed _ (search rules) c.fiber_vars-fiber.ensures.vars_value

pub returns : goal.returns
returns c = rw (← c.fiber_vars-fiber.ensures.vars_value) c.put_among.ensures
