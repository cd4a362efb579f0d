use Rattle.writer.proofs.Premises.{more_statements}
use Rattle.writer.proofs.premise.put_reached_both.Goals as goal

pub returns-clause-put : goal.returns-clause-put
returns-clause-put c = λ state e. more_statements _ _ _ (c.put_map_equalities-at.ensures.put state e) c.put_all_said.ensures
