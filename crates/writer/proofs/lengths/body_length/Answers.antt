use Rattle.writer.proofs.Measuring.{body_measured}
use Rattle.writer.proofs.lengths.body_length.Goals as goal

pub returns-clause-put : goal.returns-clause-put
returns-clause-put c =
    let f = c.requires.from_le_count_limit in
    λ state x e p q. body_measured _ _ _ _ f.1.0 f.0 c.past.ensures p (c.put_reached_conclusion.ensures.put state x e q)
