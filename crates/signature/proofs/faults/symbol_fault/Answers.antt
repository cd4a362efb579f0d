use Rattle.std.proofs.Common.{◌∙◌}
use Rattle.records.proofs.Numbers.{low_bits}
use Rattle.records.proofs.Slices.{rest_is}
use Rattle.signature.proofs.Drawn.{symbol_columns}
use Rattle.signature.proofs.faults.symbol_fault.Goals as goal

pub returns : goal.returns
returns c =
    let rest = rest_is c.args.content.now 1 in
    λ letter last. rw rest at c.columns_fault.ensures ∙ symbol_columns _ _ _ letter last c.args.content.now (low_bits _ 1 c.if-content-ne1.false)
    (rw c.from.ensures at c.if-content-from.false)
