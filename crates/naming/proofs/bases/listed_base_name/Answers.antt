use Rattle.std.proofs.Common.{sym, arith}
use Rattle.naming.proofs.Basing.{first_short, or_short}
use Rattle.naming.proofs.bases.listed_base_name.Goals as goal

pub returns-in-Some-clause-short : goal.returns-in-Some-clause-short
returns-in-Some-clause-short c = λ variables _. first_short _ variables (sym c.in-Some.ensures)

pub returns-clause-short : goal.returns-clause-short
returns-clause-short c = λ _ identifiers. rw c.unwrap_or.ensures (or_short _ identifiers _ _ (omega arith) c.first_name-2.ensures)
