use Prim.Native.Nat.{◌<◌}
use mathlib.Core.Path.{◌≡◌}
use lib.ListN.{length, take}
use native.Mathlib.Omega.{arith}
use borrow.Author.Rules.{rules}
use Rattle.definition.specs.Base.{each}
use Rattle.definition.specs.Kinds.{variable_in}
use Rattle.rule.specs.Els.{els_in}
use Rattle.statements.specs.Structures.{side_from}
use Rattle.statements.proofs.Elements.{member_given}
use Rattle.statements.proofs.members.put_member.Goals as goal

pub returns : goal.returns
returns c =
    let own = c.vars_of-vars.result in
    let n : length own ≡ 8 = search rules in
    let few : c.count-parents.result < length own = omega (arith, c.count-parents.ensures, c.element-e.ensures.few) in
    let t : take c.count-parents.result own ≡ each (variable_in (side_from c.args.numbered)) (els_in c.element-e.result.parents)
    = rw c.count-parents.ensures c.vars_of-vars.ensures in
    rw (← (member_given _ c.args.numbered.ascend c.requires.1 c.element-e.ensures.value _ _ _ few t)) c.put_statement_bytes.ensures
