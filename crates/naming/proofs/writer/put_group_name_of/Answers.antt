use Rattle.std.proofs.Common.{◌≡◌, length, rules}
use Rattle.records.proofs.Tail.{then}
use Rattle.naming.proofs.Printing.{whole, group_named, group_unnamed}
use Rattle.naming.proofs.writer.put_group_name_of.Goals as goal

pub returns-then-is_empty-clause-put : goal.returns-then-is_empty-clause-put
returns-then-is_empty-clause-put c rule n i =
    let h : length rule.name ≡ 0 = rw n (search rules) in
    rw (group_unnamed rule h, i) (then (rw whole at c.put_bytes-at.ensures) c.put_decimal.ensures)

pub returns-clause-put : goal.returns-clause-put
returns-clause-put c rule n i =
    let h : length rule.name ≡ 0 → ⊥ = rw n (search rules) in
    rw (group_named rule h, n) (rw whole at c.put_bytes.ensures)
