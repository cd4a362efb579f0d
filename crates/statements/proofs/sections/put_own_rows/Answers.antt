use Rattle.rule.proofs.Soundness.{formed_seen}
use Rattle.statements.specs.Structures.{side_from}
use Rattle.statements.proofs.Rows.{own_kind}
use Rattle.statements.proofs.sections.put_own_rows.Goals as goal

pub returns : goal.returns
returns c =
    rw (own_kind (side_from c.args.numbered) c.args.said c.args.mask (formed_seen c.st.invariant c.st.view_is))
    (rw c.kind.ensures at c.put_rows_bytes.ensures)
