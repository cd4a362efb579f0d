use Rattle.rule.proofs.Soundness.{members_alike}
use Rattle.rows.proofs.members.new_members.Goals as goal

pub returns-clause-alike : goal.returns-clause-alike
returns-clause-alike c = members_alike c.elements.ensures.sound
