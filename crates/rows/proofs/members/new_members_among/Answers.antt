use mathlib.Core.Path.{refl}
use borrow.Author.Rules.{rules}
use lib.ListN.{length-set}
use Rattle.rows.proofs.MemberLaws.{new_flag, member_alike, here_mem, no_flags_yet}
use Rattle.rows.proofs.members.new_members_among.Goals as goal

pub loop-i-init : goal.loop-i-init
loop-i-init c = (refl, λ columns pairs sources h a. no_flags_yet pairs sources)

pub is_new_member-requires : goal.is_new_member-requires
is_new_member-requires c =
    (c.requires.images, c.requires.parents.few _ (here_mem c.args.els.now c.loop-i.i (search rules) c.element.ensures))

pub loop-i-preserved : goal.loop-i-preserved
loop-i-preserved c =
    let els = c.args.els.now in
    let e = c.element.ensures in
    let i = c.loop-i.i in (
      rw length-set c.loop-i.invariant.0,
      λ columns pairs sources h a. new_flag els i (search rules) e pairs sources c.loop-i.flags (c.loop-i.invariant.1 columns pairs sources h a) (search rules)
          (c.is_new_member.ensures columns pairs sources h (member_alike els i (search rules) e columns a)),
    )
