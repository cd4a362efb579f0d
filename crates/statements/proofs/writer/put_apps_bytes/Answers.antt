use Rattle.records.proofs.Tail.{then}
use Rattle.statements.specs.Structures.{side_from}
use Rattle.statements.proofs.Whole.{apps_parts}
use Rattle.statements.proofs.writer.put_apps_bytes.Goals as goal

pub returns : goal.returns
returns c =
    rw (apps_parts _ (side_from c.args.numbered) _)
    (then (then c.put_own_rows-behind_preds.ensures c.put_own_rows-behind_funcs.ensures) c.put_members_bytes.ensures)
