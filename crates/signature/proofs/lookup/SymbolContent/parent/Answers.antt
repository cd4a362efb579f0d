use Rattle.std.proofs.Common.{◌∙◌, ap, sym}
use Rattle.definition.specs.Records.{number_at}
use Rattle.records.proofs.Slices.{rest_is}
use Rattle.signature.proofs.Symbols.{parent_room, parent_is, parent_below}
use Rattle.signature.proofs.lookup.SymbolContent.parent.Goals as goal

pub number-requires : goal.number-requires
number-requires c = rw (rest_is c.args.self.bytes.now 1) (parent_room _ c.args.self.shaped _ c.requires)

pub returns-clause-value : goal.returns-clause-value
returns-clause-value c =
    c.number.ensures ∙ ap (number_at c.args.i) (rest_is c.args.self.bytes.now 1) ∙ sym (parent_is _ c.args.self.shaped _ c.requires)

pub returns-clause-by_index : goal.returns-clause-by_index
returns-clause-by_index c = λ types k.
    rw (c.number.ensures, rest_is c.args.self.bytes.now 1) (parent_below _ c.args.self.shaped _ c.requires types k)
