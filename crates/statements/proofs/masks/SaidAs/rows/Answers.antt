use mathlib.Core.Logic.{⊎_elim}
use Rattle.rule.proofs.Soundness.{formed_seen}
use Rattle.statements.proofs.Rows.{rows_short}
use Rattle.statements.proofs.masks.SaidAs.rows.Goals as goal

pub returns-in-Predicates-clause-short : goal.returns-in-Predicates-clause-short
returns-in-Predicates-clause-short c = rows_short (formed_seen c.st.invariant c.st.view_is) c.args.self

pub returns-in-Functions : goal.returns-in-Functions
returns-in-Functions c = record {
  value = ⊎_elim (λ e. rw e c.func_rows.ensures) (λ e. rw e c.func_rows.ensures) c.in-Functions.is;
  short = rows_short (formed_seen c.st.invariant c.st.view_is) c.args.self;
}
