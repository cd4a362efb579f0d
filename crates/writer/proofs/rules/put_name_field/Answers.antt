use native.Mathlib.Omega.{arith}
use mathlib.Core.Path.{refl}
use Rattle.records.proofs.Tail.{then, field_bytes_lem}
use Rattle.writer.proofs.Ruling.{named}
use Rattle.writer.proofs.rules.put_name_field.Goals as goal

pub returns-clause-put : goal.returns-clause-put
returns-clause-put c = λ rule n i.
    rw (field_bytes_lem, ← (c.rule_name_length_of.ensures.value rule n i)) (then c.put_rule_head-head.ensures (c.put_rule_name_of.ensures rule n i))

pub returns-clause-upper_bound : goal.returns-clause-upper_bound
returns-clause-upper_bound c =
    let s = (c.put_rule_name_of.ensures (named c.args.name.now c.args.index) refl refl).size in omega arith
