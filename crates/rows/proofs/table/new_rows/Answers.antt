-- The loop along rows: the first i flags tell which rows are new, and no flag stands above them.
use Prim.Native.Nat.{◌<◌}
use native.Mathlib.Omega.{arith}
use mathlib.Core.Bool.{not}
use mathlib.Core.Path.{refl, ◌∙◌, ap}
use borrow.Author.Rules.{rules}
use Rattle.flags.specs.Flags.{places}
use Rattle.flags.proofs.Words.{above_none, above_set, above_clear, flags_start, flags_set, flags_clear}
use Rattle.records.proofs.Parts.{apart, none_left}
use Rattle.rule.specs.Row.{rows_left}
use Rattle.rows.proofs.TableLaws.{row_fits, new_at}
use Rattle.rows.proofs.table.new_rows.Goals as goal

pub loop-i-init : goal.loop-i-init
loop-i-init c = rw (c.into_iter-i-iterator.ensures.into_iter_gives, c.enumerate-i-items.ensures.count, c.enumerate-i-items.ensures.source)
    (refl, omega arith, above_none _, λ kind columns pairs sources h a. record { flags = flags_start _ })

pub loop-i-init-derived : goal.loop-i-init-derived
loop-i-init-derived c = let few = c.requires.1.few in search rules

pub is_image-requires : goal.is_image-requires
is_image-requires c = (c.requires.0, (row_fits c.requires.1 _ (c.loop-i.invariant.0 ∙ c.in-Some.ensures.steps.0) c.row_line.ensures).1)

pub loop-i-preserved-then-not-is_image : goal.loop-i-preserved-then-not-is_image
loop-i-preserved-then-not-is_image c =
    let step = c.in-Some.ensures.steps in
    let v = c.loop-i.invariant in
    let e = v.0 ∙ step.0 in
    let p = apart (rows_left c.args.rows) c.loop-i.i-iterator.count e in
    let l : c.loop-i.i-iterator.count < places = (row_fits c.requires.1 _ e c.row_line.ensures).0 in (
      rw step.2 p.left,
      rw step.2 (omega (arith, p.inside)),
      rw (c.with_flag-mask.ensures, step.1, step.2) (above_set _ _ l v.2),
      λ kind columns pairs sources h a. rw (c.with_flag-mask.ensures, step.1, step.2) (record {
        flags = flags_set (v.3 kind columns pairs sources h a).flags l
            (new_at _ e c.row_line.ensures c.is_image.ensures h a ∙ ap not c.if-not-is_image.true);
      }),
    )

pub loop-i-preserved : goal.loop-i-preserved
loop-i-preserved c =
    let step = c.in-Some.ensures.steps in
    let v = c.loop-i.invariant in
    let e = v.0 ∙ step.0 in
    let p = apart (rows_left c.args.rows) c.loop-i.i-iterator.count e in
    let l : c.loop-i.i-iterator.count < places = (row_fits c.requires.1 _ e c.row_line.ensures).0 in (
      rw step.2 p.left,
      rw step.2 (omega (arith, p.inside)),
      rw step.2 (above_clear _ _ l v.2),
      λ kind columns pairs sources h a. rw step.2 (record {
        flags = flags_clear (v.3 kind columns pairs sources h a).flags l
            (new_at _ e c.row_line.ensures c.is_image.ensures h a ∙ ap not c.if-not-is_image.false);
      }),
    )

pub returns : goal.returns
returns c =
    let v = c.loop-i.invariant in
    let n = none_left (rows_left c.args.rows) c.loop-i.i-iterator.count (v.0 ∙ c.in-None.ensures.steps.0.0) v.1 in
    λ kind columns pairs sources h a. rw n at (v.3 kind columns pairs sources h a)
