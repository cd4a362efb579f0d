use Rattle.std.proofs.Common.{◌∙◌}
use Rattle.rule.proofs.Drawn.{first_two}
use Rattle.rule.proofs.faults.ends_named.Goals as goal

pub returns : goal.returns
returns c = c.named.ensures ∙ rw (c.count.ensures, c.split_at.ensures.front, first_two c.args.content.now)
