use Rattle.naming.proofs.assign.initial_el_vars.Goals as goal

pub returns : goal.returns
returns c = rw c.elements.ensures.value at c.initial_listed_el_vars.ensures
