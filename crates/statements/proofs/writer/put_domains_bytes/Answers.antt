use Rattle.statements.specs.Structures.{side_of}
use Rattle.statements.proofs.Whole.{domains_are}
use Rattle.statements.proofs.writer.put_domains_bytes.Goals as goal

pub returns : goal.returns
returns c =
    let q = domains_are 0 (side_of c.args.st.now c.args.row.now) c.args.mask in
    rw q at (rw c.of-numbered.ensures at c.put_own_rows.ensures)
