use borrow.Author.Rules.{rules}
use Rattle.rule.specs.Elements.{element_at}
use Rattle.rule.proofs.Finding.{search_place}
use Rattle.rule.proofs.elements.find_element.Goals as goal

pub returns : goal.returns
returns c =
    search_place c.requires.elements _ _
    (rw c.element_count.ensures at (c.search.ensures (element_at c.args.s.now c.args.index.now c.args.k) (record {
      tell = λ i x h p. search rules;
      ascend = λ i j a b. c.requires.elements.ascend i j a (rw c.element_count.ensures at b);
    })))
