-- Behind the statement's head the loop has written the variables of the first i elements (Writing).
use Rattle.records.proofs.Tail.{wrote, finish}
use Rattle.group.proofs.Writing.{statement_put}
use Rattle.statements.proofs.Variables.{variables_on, variables_end}
use Rattle.statements.proofs.Rows.{part_many}
use Rattle.definition.specs.Rows.{row_statement}
use Rattle.rule.specs.Row.{row_from}
use borrow.Author.Rules.{rules}
use Rattle.statements.proofs.sections.write_row.Goals as goal

pub loop-i-preserved : goal.loop-i-preserved
loop-i-preserved c = wrote c.loop-i.invariant (variables_on _ _ _ (search rules) (rw c.at.ensures at c.var_of.ensures)) c.put_num-at.ensures

pub returns : goal.returns
unfolding row_statement
returns c =
    let rest = finish c.loop-i.invariant (variables_end _ _ _ (search rules)) in
    statement_put _ _ (part_many _ (row_from c.args.row) c.count-count.ensures) (rw c.number.ensures at c.put_head_bytes-at.ensures) rest
