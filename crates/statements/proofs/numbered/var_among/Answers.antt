use native.Mathlib.Omega.{arith}
use borrow.Author.Rules.{rules}
use Rattle.rows.proofs.Places.{listed_many}
use Rattle.statements.proofs.Variables.{variable_found, variable_absent}
use Rattle.statements.proofs.numbered.var_among.Goals as goal

pub offset_bounds-vars-i : goal.offset_bounds-vars-i
offset_bounds-vars-i c =
    let n = listed_many c.args.elements.now in
    let l = c.in-Some.ensures.is.1 in
    search rules

pub bounds-vars-i : goal.bounds-vars-i
bounds-vars-i c = let n = listed_many c.args.elements.now in let l = c.in-Some.ensures.is.1 in omega (arith, c.requires)

pub returns-in-Some : goal.returns-in-Some
returns-in-Some c = λ structure q. variable_found structure _ (rw (← q) at c.in-Some.ensures)

pub returns-in-None : goal.returns-in-None
returns-in-None c = λ structure q.
    variable_absent structure _ (rw (q, listed_many) c.requires) (rw (← q) at c.in-None.ensures)
