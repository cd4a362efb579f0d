use Rattle.group.proofs.Values.{number_named}
use Rattle.group.proofs.lookup.VariableTable.same_variables.Goals as goal

pub same_variable-requires : goal.same_variable-requires
same_variable-requires c =
    let named = c.requires.named in (
      number_named c.args.a.now named.0 c.loop-i-test.true c.number.ensures,
      number_named c.args.b.now named.1 (rw c.requires.same_length at c.loop-i-test.true) c.number-in-loop-i.ensures,
    )
