use Rattle.rule.proofs.Checking.{told, told_among}
use Rattle.rule.proofs.reader.check_name.Goals as goal

pub returns : goal.returns
returns c = λ fs r. told_among {index = c.args.index.now} {section = 0} (told _ c.check_section.ensures c.part_at-head.ensures) _ fs r
