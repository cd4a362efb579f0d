-- An element behind the list: it and the list's are compared each by itself (`same_with`).
use mathlib.Core.Path.{sym, ◌∙◌}
use borrow.Author.Rules.{rules}
use Rattle.rows.proofs.TableLaws.{line_some, line_none, line_room, same_with}
use Rattle.rows.proofs.table.same_line.Goals.{in-Some, in-None}
use Rattle.rows.proofs.table.same_line.Goals as goal

pub returns-then-own : goal.returns-then-own
returns-then-own c = elim c.match-line.branch [
  | in-Some w ↦
      let room = line_room c.args.line w.in-Some.is c.requires w.count.ensures in
      let both = same_with _ _ c.args.places.now w.count.ensures (rw c.told-places room) in
      rw (line_some c.args.line w.in-Some.is) (c.same_elements.ensures ∙ sym (both ∙ rw (← w.own-is, c.if-own.true)))
  | in-None w ↦ rw (line_none c.args.line w.in-None.is) c.same_elements.ensures
]

pub returns-else-own : goal.returns-else-own
returns-else-own c = elim c.match-line.branch [
  | in-Some w ↦
      let room = line_room c.args.line w.in-Some.is c.requires w.count.ensures in
      let both = same_with _ _ c.args.places.now w.count.ensures (rw c.told-places room) in
      rw (line_some c.args.line w.in-Some.is) (c.if-own.false ∙ sym (both ∙ rw (← w.own-is, c.if-own.false)))
  | in-None w ↦ search rules
]
