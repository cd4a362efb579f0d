use borrow.Author.Rules.{rules}
use lib.ListN.{length}
use mathlib.Core.Path.{◌≡◌}
use native.Mathlib.Omega.{arith}
use Rattle.definition.specs.Limits.{field_limit}
use Rattle.naming.proofs.News.{new_spare}
use Rattle.rule.specs.Structures.{structure_in}
use Rattle.naming.proofs.Basing.{laid_short}
use Rattle.writer.proofs.Naming.{laid_few, new_few}
use Rattle.writer.proofs.variables.put_variables.Goals as goal

pub invariant_of-elements : goal.invariant_of-elements
invariant_of-elements c = let l = c.requires.laid in (l.few, l.elements.elements)

pub put_listed_variables-requires-clause-short : goal.put_listed_variables-requires-clause-short
put_listed_variables-requires-clause-short c =
    let l = c.requires.laid in (
      rw c.structure_names-variables.ensures (laid_short l 1 (omega arith) (omega arith)),
      rw c.structure_names-identifiers.ensures (laid_short l 2 (omega arith) (omega arith)),
    )

pub returns-clause-put : goal.returns-clause-put
returns-clause-put c =
    let l = c.requires.laid in
    rw (← new_spare (structure_in c.args.bytes.now c.args.t) _ _, l.same)
    (rw (c.structure_names-variables.ensures, c.structure_names-identifiers.ensures) at c.put_listed_variables.ensures.put)

pub returns-clause-next_after : goal.returns-clause-next_after
returns-clause-next_after c =
    let l = c.requires.laid in
    rw (← new_spare (structure_in c.args.bytes.now c.args.t) _ _, l.same)
    (rw (c.structure_names-variables.ensures, c.structure_names-identifiers.ensures) at c.put_listed_variables.ensures.next_after)

pub returns-clause-few : goal.returns-clause-few
returns-clause-few c = let l : length c.args.row.now ≡ field_limit = search rules in new_few _ _ _ (laid_few c.requires.laid) l
