use Rattle.std.proofs.Common.{◌≡◌, length, rules, arith}
use lib.ListN.{length-append}
use Rattle.naming.proofs.Printing.{group_unnamed, group_named}
use Rattle.naming.proofs.writer.group_name_length_of.Goals as goal

pub returns-then-is_empty-clause-value : goal.returns-then-is_empty-clause-value
returns-then-is_empty-clause-value c rule n i =
    let h : length rule.name ≡ 0 = rw n (search rules) in
    rw (group_unnamed rule h, length-append, i) (omega arith)

pub returns-clause-value : goal.returns-clause-value
returns-clause-value c rule n i =
    let h : length rule.name ≡ 0 → ⊥ = rw n (search rules) in
    rw (group_named rule h, n) (omega arith)
