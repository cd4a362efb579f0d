use mathlib.Core.Path.{refl}
use Rattle.definition.specs.Kinds.{Side}
use Rattle.definition.specs.Rule.{Row}
use Rattle.statements.specs.Parts.{rows_said, rows_kinded}
use Rattle.statements.proofs.Counting.{said_counted}
use Rattle.statements.proofs.lengths.body_said_length.Goals as goal

pub returns-clause-by_index : goal.returns-clause-by_index
unfolding rows_said rows_kinded
returns-clause-by_index c = λ letter variables.
    let side : Side = record { structure = c.args.st.now; variables = variables } in
    said_counted letter side _ _ (c.body_rows_length-behind_preds.ensures.by_index letter (λ (r : Row). r.kind) side refl)
    (c.body_rows_length-behind_funcs.ensures.by_index letter (λ (r : Row). r.kind) side refl) (c.elements_length.ensures.by_index letter side refl)
