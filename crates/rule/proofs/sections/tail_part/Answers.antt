use Rattle.rule.proofs.Saying.{tail_run_at}
use Rattle.rule.proofs.sections.tail_part.Goals as goal

pub returns : goal.returns
returns c = c.part_at.ensures _ (tail_run_at c.requires.ready c.args.place c.requires.place_m_le_place.0 c.requires.place_m_le_place.1)
