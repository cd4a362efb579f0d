use native.Mathlib.Omega.{arith}
use Rattle.definition.specs.Names.{base_name, new_variable}
use Rattle.records.proofs.Tail.{lent}
use Rattle.naming.proofs.Printing.{variable_counted}
use Rattle.naming.proofs.writer.put_new_variable.Goals as goal

pub returns-then-out-at : goal.returns-then-out-at
unfolding new_variable base_name
returns-then-out-at c =
    rw (← c.listed_base_name-base.ensures.value)
    (variable_counted _ _ c.name_length.ensures.0 (rw c.from.ensures at c.past.ensures) c.if-out-at.true)

pub returns : goal.returns
unfolding new_variable base_name
returns c =
    rw (← c.listed_base_name-base.ensures.value)
    (lent (omega arith) c.put_variable-len.ensures c.past-2.ensures c.requires.at_le_count_limit)
