use Rattle.naming.proofs.News.{bare_new, sound_bytes}
use Rattle.walk.proofs.walk.first_row.Goals as goal

pub first_listed_row-requires-clause-byte_types : goal.first_listed_row-requires-clause-byte_types
first_listed_row-requires-clause-byte_types c = rw c.elements.ensures.value (sound_bytes c.elements.ensures.sound)

pub returns-clause-value : goal.returns-clause-value
returns-clause-value c = rw c.elements.ensures.value at c.first_listed_row.ensures.value

pub returns-clause-types_after : goal.returns-clause-types_after
returns-clause-types_after c = rw (← (bare_new _ _ _)) (rw c.elements.ensures.value at c.first_listed_row.ensures.types_after)
