use Rattle.writer.proofs.Measuring.{name_measured}
use Rattle.writer.proofs.lengths.name_length.Goals as goal

pub returns-clause-put : goal.returns-clause-put
returns-clause-put c = λ rule n i.
    name_measured _ _ c.requires.0 (c.rule_name_length_of.ensures.value rule n i) (rw c.from.ensures at c.past.ensures)
