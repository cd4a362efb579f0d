use Rattle.writer.proofs.Ruling.{body_put}
use Rattle.writer.proofs.rules.put_body.Goals as goal

pub returns-clause-put : goal.returns-clause-put
returns-clause-put c =
    λ state x e q. body_put _ _ _ x c.requires.from_le_count_limit.1
    (rw c.reached_source.ensures.source_value at (c.put_reached_premise-said.ensures.put state e)) (c.put_reached_conclusion.ensures.put state x e q)
