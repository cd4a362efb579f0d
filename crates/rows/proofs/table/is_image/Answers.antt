use mathlib.Core.Path.{sym, ◌∙◌}
use borrow.Author.Rules.{rules}
use Rattle.rows.proofs.TableLaws.{search_other, search_same, search_end}
use Rattle.rows.proofs.table.is_image.Goals.{else-images-i-via-else-images-i, else-images-i-via-then-images-i+else-same_line}
use Rattle.rows.proofs.table.is_image.Goals as goal

pub returns-then-same_line : goal.returns-then-same_line
returns-then-same_line c =
    λ columns r qs of h a n. let many = h.count in
    sym (c.loop-i.invariant columns r qs of h a n
    ∙ search_same h r a _ (search rules) (c.if-images-i.true ∙ of.symbol) n (rw of.elements at c.same_line.ensures) ∙ rw c.if-same_line.true)

pub loop-i-preserved : goal.loop-i-preserved
loop-i-preserved c =
    λ columns r qs of h a n. let many = h.count in
    c.loop-i.invariant columns r qs of h a n
    ∙ elim c.else-images-i.branch [
      | else-images-i-via-then-images-i+else-same_line w ↦
          search_same h r a _ (search rules) (w.if-images-i.true ∙ of.symbol) n (rw of.elements at w.same_line.ensures) ∙ rw w.if-same_line.false
      | else-images-i-via-else-images-i w ↦ search_other h r a _ (search rules) (λ e. w.if-images-i.false (e ∙ sym of.symbol))
    ]

pub returns : goal.returns
returns c = λ columns r qs of h a n. let many = h.count in sym (c.loop-i.invariant columns r qs of h a n ∙ search_end h r a _ (search rules))
