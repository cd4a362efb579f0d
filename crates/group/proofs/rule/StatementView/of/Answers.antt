use Rattle.definition.specs.Group.{statement_of}
use Rattle.group.proofs.Stating.{statement_is}
use Rattle.group.proofs.rule.StatementView.of.Goals as goal

pub relation-requires : goal.relation-requires
unfolding statement_of
relation-requires c = rw c.of-said.ensures.head.0 c.requires.known

pub returns-clause-says : goal.returns-clause-says
returns-clause-says c =
    let said = c.of-said.ensures in
    rw (c.relation.ensures.0, c.relation.ensures.1, said.head.0, said.head.1, said.variables) (statement_is _ c.requires.long)
