use Rattle.naming.proofs.Basing.{sound_short}
use Rattle.naming.proofs.News.{new_spare}
use Rattle.naming.proofs.writer.put_variables.Goals as goal

pub put_listed_variables-requires-clause-short : goal.put_listed_variables-requires-clause-short
put_listed_variables-requires-clause-short c =
    let w = c.elements-elements.ensures.sound.sound in
    (rw c.names-variables.ensures (sound_short w.variables_sound), rw c.names-identifiers.ensures (sound_short w.identifiers_sound))

pub returns-clause-put : goal.returns-clause-put
returns-clause-put c =
    rw (← new_spare c.args.st.now.structure _ _)
    (rw (c.elements-elements.ensures.value, c.names-variables.ensures, c.names-identifiers.ensures) at c.put_listed_variables.ensures.put)

pub returns-clause-next_after : goal.returns-clause-next_after
returns-clause-next_after c =
    rw (← new_spare c.args.st.now.structure _ _)
    (rw (c.elements-elements.ensures.value, c.names-variables.ensures, c.names-identifiers.ensures) at c.put_listed_variables.ensures.next_after)
