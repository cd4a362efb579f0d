-- Behind `count` W fields (`Listing`): the index holds these, and the first fault of all is that of the W fields left; each entry lies in
-- the record (`Stored`). A sound field shows `count` below the limit (`few`), so it has room in the index (`listing_next`); a faulty one
-- answers (`along_fault`). Another letter (`over_stop`) or the end (`over_done`) ends them (`listing_over`).
use Prim.Native.Nat.{◌+◌, ◌<◌}
use mathlib.Core.Path.{◌≡◌}
use mathlib.Core.Option.{Option, none}
use lib.ListN.{length}
use Rattle.definition.specs.Group.{variable_fault}
use Rattle.definition.specs.Signature.{Signature}
use Rattle.definition.specs.Records.{Field}
use Rattle.definition.specs.Letters.{letter_w}
use Rattle.definition.specs.Limits.{variable_limit}
use Rattle.records.specs.Places.{stretch, field_of}
use Rattle.records.proofs.Results.{passed_on}
use Rattle.signature.proofs.Checking.{told_sound, told_drawn}
use Rattle.group.specs.Index.{variables_from}
use Rattle.group.proofs.Given.{given_here, given_letter}
use Rattle.group.proofs.Listing.{few_before, some_types, some_length, stored_start, stored_next, listing_start, listing_next}
use Rattle.group.proofs.Listing.{listing_over, listing_fault}
use Rattle.group.proofs.Along.{along_fault, over_done, over_stop}
use borrow.Author.Rules.{rules}
use native.Mathlib.Omega.{arith}
use Rattle.group.proofs.reader.variables.Goals as goal

pub loop-f-init : goal.loop-f-init
unfolding stretch
loop-f-init c = (
  search rules,
  search rules,
  search rules,
  search rules,
  stored_start c.requires.index_len,
  rw c.into_iter-f-iterator.ensures.into_iter_gives c.new-f-items.ensures,
  λ sig fs e r. listing_start r,
)

pub returns-in_err-variable_fault-clause-variable : goal.returns-in_err-variable_fault-clause-variable
returns-in_err-variable_fault-clause-variable c = λ sig fs e r.
    let w = c.loop-f.invariant in
    let l = w.6 sig fs e r in
    let g = given_here c.args.s.now c.loop-f.at c.args.end w.3 c.requires.from_in_bounds.1 w.5 c.in-Some.ensures.steps.1 in
    rw (passed_on c.from_residual.ensures)
    (listing_fault l (along_fault l.along (omega (arith, g.within)) (given_letter g c.if-f-ne-LETTER_W.false)
    (λ last. rw (← g.content) (told_drawn (c.variable_fault.ensures sig _ last e) c.in_err-variable_fault.was))))

pub loop-f-preserved : goal.loop-f-preserved
loop-f-preserved c =
    let w = c.loop-f.invariant in
    let g = given_here c.args.s.now c.loop-f.at c.args.end w.3 c.requires.from_in_bounds.1 w.5 c.in-Some.ensures.steps.1 in
    let there = given_letter g c.if-f-ne-LETTER_W.false in
    let fine : (sig : Signature) → length sig.types ≡ c.args.types → (last : Option Field)
    → none ≡ variable_fault sig c.loop-f.count last (field_of c.args.s.now letter_w (c.loop-f.at + 3) (length c.in-Some.f.content.now)) =
    λ sig e last. rw (← g.content) (told_sound (c.variable_fault.ensures sig letter_w last e) c.in_ok-variable_fault.was) in
    let few : c.loop-f.count < variable_limit = few_before _ _ none _ (fine (some_types _) (some_length _) none) in
    let room : variables_from + c.loop-f.count < length c.loop-f.index = let l = w.4.size in omega arith in (
      search rules,
      search rules,
      omega arith,
      g.within,
      stored_next (some_types _) _ w.4 there (fine (some_types _) (some_length _) none),
      g.left,
      λ sig fs e r. listing_next (w.6 sig fs e r) (omega (arith, g.within)) room there (fine sig e),
    )

pub returns-in-None-clause-variable : goal.returns-in-None-clause-variable
returns-in-None-clause-variable c = λ sig fs e r.
    let w = c.loop-f.invariant in
    let l = w.6 sig fs e r in
    listing_over l w.4 (over_done l.along c.requires.from_in_bounds.1 (rw w.5 at c.in-None.ensures.steps.0))

pub returns-then-f-ne-LETTER_W-clause-variable : goal.returns-then-f-ne-LETTER_W-clause-variable
returns-then-f-ne-LETTER_W-clause-variable c = λ sig fs e r.
    let w = c.loop-f.invariant in
    let l = w.6 sig fs e r in
    let g = given_here c.args.s.now c.loop-f.at c.args.end w.3 c.requires.from_in_bounds.1 w.5 c.in-Some.ensures.steps.1 in
    listing_over l w.4 (over_stop l.along (omega (arith, g.within)) g.there c.if-f-ne-LETTER_W.true)
