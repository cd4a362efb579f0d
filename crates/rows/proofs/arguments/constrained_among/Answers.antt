use mathlib.Core.List.{[]}
use Rattle.rows.proofs.ArgumentLaws.{marks_none, constrained_say}
use Rattle.rows.proofs.Places.{listed_seen, few_listed}
use Rattle.rows.proofs.arguments.constrained_among.Goals as goal

pub mark_rows-requires-clause-listed : goal.mark_rows-requires-clause-listed
mark_rows-requires-clause-listed c = listed_seen c.els.invariant c.els.view_is

pub mark_rows-requires-2-clause-listed : goal.mark_rows-requires-2-clause-listed
mark_rows-requires-2-clause-listed c = listed_seen c.els.invariant c.els.view_is

pub returns : goal.returns
returns c = λ st same preds funcs.
    let few = few_listed (listed_seen c.els.invariant c.els.view_is) in
    let marks = c.mark_rows-2.ensures _ (c.mark_rows.ensures [] (marks_none _ few)) in
    constrained_say _ st _ same preds funcs marks (rw c.mark_rows-2.array_long few)
