use Rattle.definition.specs.Names.{base_name}
use Rattle.rule.proofs.NameSoundness.{base_short}
use Rattle.rule.proofs.Soundness.{sound_seen}
use Rattle.naming.proofs.bases.el_base_name.Goals as goal

pub returns-clause-short : goal.returns-clause-short
unfolding base_name
returns-clause-short c = rw (c.listed_base_name.ensures.value, c.names-variables.ensures, c.names-identifiers.ensures)
    (base_short (sound_seen c.st.invariant c.st.view_is).sound _)
