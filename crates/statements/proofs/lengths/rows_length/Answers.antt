use Rattle.definition.specs.Rule.{Row}
use Rattle.statements.specs.Parts.{part_as, rows_said, rows_kinded}
use Rattle.statements.proofs.lengths.rows_length.Goals as goal

-- A length is the same for any kinds, so also for the rows' own.
pub returns-clause-by_index : goal.returns-clause-by_index
unfolding rows_said rows_kinded
returns-clause-by_index c = λ letter side q.
    c.body_rows_length.ensures.by_index letter (λ (r : Row). (part_as c.args.said r).kind) side (rw (← c.st.view_is) at q)
