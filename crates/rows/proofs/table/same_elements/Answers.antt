use mathlib.Core.Path.{refl, sym, ◌∙◌}
use lib.ListN.{length}
use lib.Seq.{get_or-take, length-take-le}
use borrow.Author.Rules.{rules}
use Rattle.rule.specs.Els.{els_in}
use Rattle.records.proofs.Parts.{same_on, same_no, same_end}
use Rattle.rows.proofs.table.same_elements.Goals as goal

pub returns-then-at-places : goal.returns-then-at-places
returns-then-at-places c =
    let n = length (els_in c.args.l) in
    sym (c.loop-j.invariant ∙ same_no _ _ refl (length-take-le n c.args.places.now (search rules)) (search rules)
    (λ e. c.if-at-places.true (c.at.ensures ∙ e ∙ get_or-take n c.args.places.now c.loop-j.j 0 (search rules))))

pub loop-j-preserved : goal.loop-j-preserved
loop-j-preserved c =
    let n = length (els_in c.args.l) in
    c.loop-j.invariant ∙ same_on _ _ refl (length-take-le n c.args.places.now (search rules)) (search rules)
    (sym c.at.ensures ∙ c.if-at-places.false ∙ sym (get_or-take n c.args.places.now c.loop-j.j 0 (search rules)))

pub returns : goal.returns
returns c =
    let n = length (els_in c.args.l) in
    sym (c.loop-j.invariant ∙ same_end _ _ refl (length-take-le n c.args.places.now (search rules)) (search rules))
