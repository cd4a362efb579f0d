use mathlib.Core.Bool.{true}
use mathlib.Core.Path.{◌≡◌}
use borrow.Author.Rules.{rules}
use Rattle.std.specs.Option.{is_some}
use Rattle.std.specs.Prelude.{Some}
use Rattle.rule.specs.declared.tail.MorphismKind.TheVariants as variant
use Rattle.writer.proofs.Premises.{ends, kind_known, by_kind}
use Rattle.writer.proofs.Ruling.{places_in, surj_concludes, rows_conclude}
use Rattle.writer.proofs.rules.put_reached_conclusion.Goals as goal

pub reached_by-requires : goal.reached_by-requires
reached_by-requires c = places_in c.r.view_is c.args.t (ends c.r.invariant c.r.view_is) c.requires.reaching

pub put_reached_both-requires-clause-by_map : goal.put_reached_both-requires-clause-by_map
put_reached_both-requires-clause-by_map c =
    let k : c.reached_by.result ≡ Some variant.SurjThen = search rules in
    let some : is_some c.reached_by.result ≡ true = rw k in
    by_kind c.r.invariant c.r.view_is c.args.t _ some (kind_known c.r.view_is c.reached_by.ensures c.requires.tabled)

pub returns-then-eq-clause-put : goal.returns-then-eq-clause-put
returns-then-eq-clause-put c =
    let k : c.reached_by.result ≡ Some variant.SurjThen = search rules in
    λ state x e q. rw (surj_concludes c.args.r.now state _ x q (rw k at (kind_known c.r.view_is c.reached_by.ensures c.requires.tabled)))
    (rw c.letter-letter.ensures at (c.put_reached_both.ensures.put state e))

pub returns-clause-put : goal.returns-clause-put
returns-clause-put c =
    let k : c.reached_by.result ≡ Some variant.SurjThen → ⊥ = search rules in
    let p = rw (c.letter-letter.ensures, c.masks.ensures.said, c.row.ensures.value, c.structure.ensures) at c.put_domains_bytes.ensures in
    λ state x e q. rw (rows_conclude c.args.r.now state _ x q k (kind_known c.r.view_is c.reached_by.ensures c.requires.tabled)) p
