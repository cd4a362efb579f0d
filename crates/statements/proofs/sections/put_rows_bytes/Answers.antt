use mathlib.Core.Path.{sym}
use Rattle.statements.proofs.Unsaid.{unsaid, rows_none}
use Rattle.statements.proofs.sections.put_rows_bytes.Goals as goal

pub returns-then-none_set : goal.returns-then-none_set
returns-then-none_set c = unsaid _ _ (rows_none _ _ (sym c.if-none_set.ensures) _ _) c.requires
