use Rattle.rule.specs.Lookup.{rule_at}
use Rattle.writer.proofs.Naming.{Naming, told_by}
use Rattle.writer.proofs.variables.put_new_variables.Given as goal

abbrev pub invariant-loop-t : goal.invariant-loop-t
invariant-loop-t l = Naming l.initial.out l.out (rule_at l.bytes) (told_by l.sources l.vars) l.from l.at l.number l.t
