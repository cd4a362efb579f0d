use mathlib.Core.Path.{refl}
use Rattle.records.proofs.Tail.{wrote, finish}
use Rattle.group.proofs.Writing.{vars_on, vars_end, statement_put}
use Rattle.group.proofs.write.write_statement.Goals as goal

pub loop-v-preserved : goal.loop-v-preserved
loop-v-preserved c = wrote c.loop-v.invariant (vars_on _ _ c.loop-v-test.true) c.put_num-at.ensures

pub returns : goal.returns
returns c = statement_put _ _ refl c.put_head_bytes-at.ensures (finish c.loop-v.invariant (vars_end _ _ c.loop-v-test.false))
