use Rattle.naming.proofs.News.{bare_new, sound_bytes}
use Rattle.naming.proofs.types.type_variables.Goals as goal

pub type_listed_variables-requires-clause-byte_types : goal.type_listed_variables-requires-clause-byte_types
type_listed_variables-requires-clause-byte_types c = rw c.elements.ensures.value (sound_bytes c.elements.ensures.sound)

pub returns : goal.returns
returns c = rw (← (bare_new _ _ _)) (rw c.elements.ensures.value at c.type_listed_variables.ensures)
