-- Where `ends` answers Ok, the map's source was reached and its target was not; the later calls need just this (`Ready`). What is said of a rule that
-- the map is one of comes last: a refusal of `ends` is `ends_stop`, one of `flatten_link` is that of the map's kind (`went_refused`). Else the
-- target's source, masks, variables and types are what reaching it sets (`went_on`).
use borrow.Author.Rules.{rules}
use native.Mathlib.Omega.{arith}
use mathlib.Core.Path.{◌≡◌, refl}
use lib.ListN.{length}
use Rattle.definition.specs.Limits.{structure_limit}
use Rattle.std.proofs.lemmas.Result.{err_from_is_err_and}
use Rattle.walk.proofs.Linking.{known_bytes, joins, new_small, room, typed_room, reached}
use Rattle.walk.proofs.Going.{ends_stop, walkable, row_over, answered, types_over, went_refused, went_on}
use Rattle.walk.proofs.Growing.{row_among, rows_same}
use Rattle.walk.proofs.walk.walk_link.Goals as goal

pub returns-in_err-ends-clause-went : goal.returns-in_err-ends-clause-went
returns-in_err-ends-clause-went c =
    let p = err_from_is_err_and c.from_residual.result c.from_residual.ensures.1 in
    rw (p.1, p.2) (λ rule h g. ends_stop h g c.in_err-ends.ensures)

pub returns-in_err-ends-clause-by_row : goal.returns-in_err-ends-clause-by_row
returns-in_err-ends-clause-by_row c =
    let p = err_from_is_err_and c.from_residual.result c.from_residual.ensures.1 in
    rw (p.1, p.2) (λ rule vars e h g. ends_stop h g c.in_err-ends.ensures)

pub assign_listed_el_vars-vars-requires-clause-joins : goal.assign_listed_el_vars-vars-requires-clause-joins
assign_listed_el_vars-vars-requires-clause-joins c =
    rw (
      c.elements.ensures.value,
      c.source.ensures.value,
      c.elements-elements.ensures.value,
      c.target.ensures.value,
      c.map.ensures.value,
    ) (joins c.merged-merged.ensures.linked)

pub assign_listed_el_vars-vars-requires-clause-room : goal.assign_listed_el_vars-vars-requires-clause-room
assign_listed_el_vars-vars-requires-clause-room c = room c.requires.ready c.in_ok-ends.ensures

pub flatten_link-requires-clause-reached : goal.flatten_link-requires-clause-reached
flatten_link-requires-clause-reached c =
    let row = rw (
      c.elements.ensures.value,
      c.source.ensures.value,
      c.elements-elements.ensures.value,
      c.target.ensures.value,
      c.map.ensures.value,
    ) at c.assign_listed_el_vars-vars.ensures in
    reached c.merged-merged.ensures.linked c.requires.ready c.in_ok-ends.ensures refl row

pub returns-in-Err-clause-went : goal.returns-in-Err-clause-went
returns-in-Err-clause-went c =
    let few = (rw c.target.ensures.value at c.elements-elements.ensures.formed).elements_few in
    let row = rw (
      c.elements.ensures.value,
      c.source.ensures.value,
      c.elements-elements.ensures.value,
      c.target.ensures.value,
      c.map.ensures.value,
    ) at c.assign_listed_el_vars-vars.ensures in
    λ rule h g. went_refused (walkable h g c.merged-merged.ensures.linked few c.in_ok-ends.ensures) refl (row_over h g _ row)
    (answered h g _ _ c.in-Err.ensures)

pub returns-in-Err-clause-by_row : goal.returns-in-Err-clause-by_row
returns-in-Err-clause-by_row c =
    let few = (rw c.target.ensures.value at c.elements-elements.ensures.formed).elements_few in
    let row = rw (
      c.elements.ensures.value,
      c.source.ensures.value,
      c.elements-elements.ensures.value,
      c.target.ensures.value,
      c.map.ensures.value,
    ) at c.assign_listed_el_vars-vars.ensures in
    λ rule vars e h g. went_refused (walkable h g c.merged-merged.ensures.linked few c.in_ok-ends.ensures)
    (row_among c.args.tables.now c.args.source vars e) (row_over h g _ row) (answered h g _ _ c.in-Err.ensures)

pub type_listed_variables-requires-clause-byte_types : goal.type_listed_variables-requires-clause-byte_types
type_listed_variables-requires-clause-byte_types c = rw (c.elements-elements.ensures.value, c.target.ensures.value) (known_bytes c.requires.known)

pub type_listed_variables-requires-clause-room : goal.type_listed_variables-requires-clause-room
type_listed_variables-requires-clause-room c = typed_room c.requires.ready c.in_ok-ends.ensures

pub overflow_add-result : goal.overflow_add-result
overflow_add-result c =
    let few = (rw c.target.ensures.value at c.elements-elements.ensures.formed).elements_few in
    let h = new_small c.args.first c.assign_listed_el_vars-vars.result few (room c.requires.ready c.in_ok-ends.ensures) in
    rw (c.fresh_in.ensures, c.count.ensures.count_value, c.elements-elements.ensures.value, c.target.ensures.value) (search rules)

pub returns-clause-went : goal.returns-clause-went
returns-clause-went c =
    let few = (rw c.target.ensures.value at c.elements-elements.ensures.formed).elements_few in
    let row = rw (
      c.elements.ensures.value,
      c.source.ensures.value,
      c.elements-elements.ensures.value,
      c.target.ensures.value,
      c.map.ensures.value,
    ) at c.assign_listed_el_vars-vars.ensures in
    λ rule h g. rw (c.fresh_in.ensures, c.count.ensures.count_value, c.elements-elements.ensures.value, c.target.ensures.value, h.to)
    (went_on (walkable h g c.merged-merged.ensures.linked few c.in_ok-ends.ensures) refl (row_over h g _ row)
    (answered h g _ _ c.in-Ok.ensures) c.merged-merged.ensures.value
    (types_over h g _ (rw (c.elements-elements.ensures.value, c.target.ensures.value) at c.type_listed_variables.ensures)) refl)

pub returns-clause-by_row : goal.returns-clause-by_row
returns-clause-by_row c =
    let few = (rw c.target.ensures.value at c.elements-elements.ensures.formed).elements_few in
    let row = rw (
      c.elements.ensures.value,
      c.source.ensures.value,
      c.elements-elements.ensures.value,
      c.target.ensures.value,
      c.map.ensures.value,
    ) at c.assign_listed_el_vars-vars.ensures in
    let l : length c.args.tables.now.vars ≡ structure_limit = search rules in
    let i = c.requires.ready.target_in in
    λ rule vars e h g. rw (c.fresh_in.ensures, c.count.ensures.count_value, c.elements-elements.ensures.value, c.target.ensures.value, h.to)
    (went_on (walkable h g c.merged-merged.ensures.linked few c.in_ok-ends.ensures) (row_among c.args.tables.now c.args.source vars e) (row_over h g _ row)
    (answered h g _ _ c.in-Ok.ensures) c.merged-merged.ensures.value
    (types_over h g _ (rw (c.elements-elements.ensures.value, c.target.ensures.value) at c.type_listed_variables.ensures))
    (rows_same c.args.tables.now c.args.target c.args.source _ _ (omega arith) vars))
