use Rattle.std.proofs.Common.{rules}
use Rattle.definition.specs.Base.{each}
use Rattle.records.proofs.FieldsIn.{none_short}
use Rattle.rule.proofs.row.Rows.is_empty.Goals as goal

pub returns : goal.returns
unfolding each
returns c = λ t. rw (none_short c.args.self.now.fields.rest.now (search rules))
