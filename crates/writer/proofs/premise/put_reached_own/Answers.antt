use borrow.Author.Rules.{rules}
use mathlib.Core.Logic.{◌⊎◌}
use mathlib.Core.Bool.{true}
use mathlib.Core.Path.{◌≡◌}
use Rattle.std.specs.Option.{is_some}
use Rattle.std.specs.Prelude.{Some, None}
use Rattle.rule.specs.declared.tail.MorphismKind.TheVariants as variant
use Rattle.statements.proofs.Unsaid.{unsaid}
use Rattle.writer.proofs.Premises.{ends, own_nothing, own_both, own_only, kind_known, by_kind}
use Rattle.writer.proofs.Ruling.{places_in}
use Rattle.writer.proofs.premise.put_reached_own.Goals as goal

pub reached_by-requires : goal.reached_by-requires
reached_by-requires c = places_in c.r.view_is c.args.t (ends c.r.invariant c.r.view_is) c.requires.reaching

pub returns-in-Some-SurjThen-clause-put : goal.returns-in-Some-SurjThen-clause-put
returns-in-Some-SurjThen-clause-put c = λ state e.
    let k : c.reached_by.result ≡ Some variant.SurjThen = search rules in
    unsaid _ _ (own_nothing c.args.r.now state _ (rw k at (kind_known c.r.view_is c.reached_by.ensures c.requires.tabled))) c.requires.from_le_count_limit

pub put_reached_both-requires-clause-by_map : goal.put_reached_both-requires-clause-by_map
put_reached_both-requires-clause-by_map c =
    let some : is_some c.reached_by.result ≡ true = search rules in
    by_kind c.r.invariant c.r.view_is c.args.t _ some (kind_known c.r.view_is c.reached_by.ensures c.requires.tabled)

pub returns-in-Some-If-clause-put : goal.returns-in-Some-If-clause-put
returns-in-Some-If-clause-put c = λ state e.
    let either : (c.reached_by.result ≡ Some variant.If) ⊎ (c.reached_by.result ≡ Some variant.Noop) = search rules in
    rw (own_both c.args.r.now state _ either (kind_known c.r.view_is c.reached_by.ensures c.requires.tabled))
    (rw c.letter-letter.ensures at (c.put_reached_both.ensures.put state e))

pub returns-in-Some-NonSurjThen-clause-put : goal.returns-in-Some-NonSurjThen-clause-put
returns-in-Some-NonSurjThen-clause-put c = λ state e.
    let either : (c.reached_by.result ≡ Some variant.NonSurjThen) ⊎ (c.reached_by.result ≡ None) = search rules in
    rw (own_only c.args.r.now state _ either (kind_known c.r.view_is c.reached_by.ensures c.requires.tabled))
    (rw c.letter-letter.ensures at c.put_all_said.ensures)
