use Prim.Native.Nat.{◌<◌}
use lib.ListN.{length}
use mathlib.Core.Path.{sym, ◌∙◌, ap}
use Rattle.records.proofs.Results.{passed_on, was_some, was_none, which_err}
use Rattle.rule.specs.Pairs.{image_is}
use Rattle.rows.proofs.TableLaws.{line_some, line_room, maps_more, lacks_before, lacks_last}
use Rattle.rows.proofs.table.map_line.Goals as goal

pub returns-in_err-map_elements : goal.returns-in_err-map_elements
returns-in_err-map_elements c = rw (passed_on c.from_residual.ensures) (lacks_before c.args.line c.in_err-map_elements.ensures)

pub returns-in_err-e : goal.returns-in_err-e
returns-in_err-e c =
    let i = sym c.image_of.ensures ∙ ap image_is (was_none _ c.ok_or.ensures.value c.in_err-e.was) in
    rw (passed_on c.from_residual-in_err-e.ensures, which_err _ c.image_of.result c.ok_or.ensures.value c.in_err-e.was, line_some c.args.line c.in-Some.is)
    (lacks_last _ c.in_ok-map_elements.ensures i)

pub returns : goal.returns
returns c =
    let i = sym c.image_of.ensures ∙ ap image_is (was_some _ c.ok_or.ensures.value c.in_ok-e.was) in
    let room : c.count.result < length c.map_elements.new.places =
    rw c.map_elements.array_long (line_room c.args.line c.in-Some.is c.requires c.count.ensures) in
    rw (line_some c.args.line c.in-Some.is) (maps_more _ c.in_ok-map_elements.ensures i c.count.ensures room)
