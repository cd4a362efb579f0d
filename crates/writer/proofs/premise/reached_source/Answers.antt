use mathlib.Core.Path.{◌∙◌}
use Rattle.writer.proofs.Premises.{source_found}
use Rattle.writer.proofs.premise.reached_source.Goals as goal

pub returns-clause-source_value : goal.returns-clause-source_value
returns-clause-source_value c = c.unwrap_or.ensures ∙ (source_found c.source.ensures c.requires).0

pub returns-clause-reaching : goal.returns-clause-reaching
returns-clause-reaching c = rw c.unwrap_or.ensures (source_found c.source.ensures c.requires).1.0

pub returns-clause-below : goal.returns-clause-below
returns-clause-below c = rw c.unwrap_or.ensures (source_found c.source.ensures c.requires).1.1
