use Prim.Native.Nat.{◌<◌}
use mathlib.Core.Path.{sym}
use lib.ListN.{length}
use borrow.Author.Rules.{rules}
use Rattle.records.proofs.Tail.{wrote, passed, finish}
use Rattle.statements.proofs.Elements.{elements_left, types_on, types_pass, types_end, types_from}
use Rattle.statements.proofs.Unsaid.{unsaid, types_none}
use Rattle.statements.proofs.members.put_type_sets_bytes.Goals.{then-flag, else-flag}
use Rattle.statements.proofs.members.put_type_sets_bytes.Goals as goal

pub returns-then-none_set : goal.returns-then-none_set
returns-then-none_set c = unsaid _ _ (types_none _ _ (sym c.if-none_set.ensures) _) c.requires

pub loop-i-preserved : goal.loop-i-preserved
loop-i-preserved c =
    let h : c.loop-i.i < length c.args.numbered.structure.now.elements = search rules in
    let e = elements_left _ c.args.numbered.ascend h in
    elim c.if-flag.branch [
      | then-flag x ↦ rw (x.out-is, x.at-is) (wrote c.loop-i.invariant (types_on _ _ _ _ _ e (sym x.if-flag.ensures)) x.put_type_set-at.ensures)
      | else-flag x ↦ rw (x.out-is, x.at-is) (passed c.loop-i.invariant (types_pass _ _ _ _ _ e (sym x.if-flag.ensures)))
    ]

pub returns : goal.returns
unfolding types_from
returns c = finish c.loop-i.invariant (types_end _ _ _ _ _ (search rules))
