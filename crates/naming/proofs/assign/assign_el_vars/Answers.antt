use Rattle.naming.proofs.Carrying.{listed_joins, listed_taken}
use Rattle.naming.proofs.assign.assign_el_vars.Goals as goal

pub assign_listed_el_vars-requires-clause-joins : goal.assign_listed_el_vars-requires-clause-joins
assign_listed_el_vars-requires-clause-joins c =
    rw (c.elements-source.ensures.value, c.source.ensures.value, c.elements-target.ensures.value, c.target.ensures.value, c.map.ensures.value)
    (listed_joins _ _ _ c.map.ensures.between.keys c.map.ensures.between.images)

pub returns : goal.returns
returns c =
    rw (← (listed_taken _ _ _ _)) (rw (
      c.elements-source.ensures.value,
      c.source.ensures.value,
      c.elements-target.ensures.value,
      c.target.ensures.value,
      c.map.ensures.value,
    ) at c.assign_listed_el_vars.ensures)
