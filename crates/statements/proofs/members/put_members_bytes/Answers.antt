-- `order` has the places of the member rows in their order; of the flagged rows' bytes those from some row on are left
-- (`Writing`, `members_from`). A row with its flag is put (`members_on`), one without is passed (`members_pass`); behind the last nothing is
-- left (`members_end`). Where no flag is set nothing is to be said (`members_none`).
use mathlib.Core.Path.{sym}
use native.Mathlib.Omega.{arith}
use borrow.Author.Rules.{rules}
use Rattle.records.proofs.Tail.{wrote, passed, finish}
use Rattle.statements.proofs.Elements.{order_below, members_on, members_pass, members_end, members_from}
use Rattle.statements.proofs.Unsaid.{unsaid, members_none}
use Rattle.statements.proofs.members.put_members_bytes.Goals.{then-flag, else-flag}
use Rattle.statements.proofs.members.put_members_bytes.Goals as goal

pub returns-then-none_set : goal.returns-then-none_set
returns-then-none_set c = unsaid _ _ (members_none _ _ (sym c.if-none_set.ensures)) c.requires

pub flag-requires : goal.flag-requires
flag-requires c =
    let below = order_below c.members_in_order-members.ensures.count_le_field_limit.1 c.loop-place-test.true c.from-i.ensures in
    omega (arith, c.args.numbered.few)

pub put_member-at-requires : goal.put_member-at-requires
put_member-at-requires c = (search rules, order_below c.members_in_order-members.ensures.count_le_field_limit.1 c.loop-place-test.true c.from-i.ensures)

pub loop-place-preserved : goal.loop-place-preserved
loop-place-preserved c =
    let s = c.args.numbered.ascend in let o = c.members_in_order-members.ensures in let l = c.loop-place-test.true in let q = c.from-i.ensures in
    elim c.if-flag.branch [
      | then-flag x ↦ rw (x.out-is, x.at-is) (wrote c.loop-place.invariant
          (members_on _ s _ _ _ _ o.order_value o.count_le_field_limit.1 l q (sym x.if-flag.ensures)) x.put_member-at.ensures)
      | else-flag x ↦ rw (x.out-is, x.at-is) (passed c.loop-place.invariant
          (members_pass _ s _ _ _ _ o.order_value o.count_le_field_limit.1 l q (sym x.if-flag.ensures)))
    ]

pub returns : goal.returns
unfolding members_from
returns c = finish c.loop-place.invariant (members_end _ c.args.numbered.ascend _ _ _ _ c.members_in_order-members.ensures.order_value c.loop-place-test.false)
