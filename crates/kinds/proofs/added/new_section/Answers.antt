use Rattle.rows.proofs.TableLaws.{images_few}
use Rattle.kinds.proofs.New.{no_rows, rows_new}
use Rattle.kinds.proofs.added.new_section.Goals as goal

pub returns-then-is_empty-2 : goal.returns-then-is_empty-2
returns-then-is_empty-2 c =
    λ kind columns a b. no_rows (c.is_empty.ensures c.if-is_empty.true) (c.is_empty-then-is_empty.ensures c.if-is_empty-2.true)

pub new_rows-requires : goal.new_rows-requires
new_rows-requires c = (images_few c.in_ok-mapped_rel_apps.ensures.imaged c.requires.short.few, c.requires.short_2)

pub returns : goal.returns
returns c = λ kind columns a b. rows_new c.in_ok-mapped_rel_apps.ensures.imaged a (λ h. c.new_rows.ensures kind columns _ _ h b)
