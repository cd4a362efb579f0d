use mathlib.Core.Path.{◌≡◌, sym, ap}
use Rattle.definition.specs.Names.{numbers_of}
use Rattle.rule.specs.Views.{StructureBy, listed_numbers}
use Rattle.rows.proofs.Places.{numbers_listed}
use Rattle.rows.proofs.arguments.constrained_els.Goals as goal

pub returns : goal.returns
returns c =
    let same : numbers_of c.args.st.now.structure ≡ listed_numbers c.elements.result = rw c.elements.ensures.value (numbers_listed _) in
    let told = c.constrained_among.ensures c.args.st.now.structure same (sym c.pred_rows.ensures) (sym c.func_rows.ensures) in
    rw (c.elements.ensures.value, ap (λ (x : StructureBy). x.sig) c.st.view_is) at told
