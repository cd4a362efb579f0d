use mathlib.Core.Path.{sym, ◌∙◌}
use Rattle.statements.proofs.Unsaid.{unsaid}
use Rattle.walk.specs.Reached.{reach_by}
use Rattle.writer.proofs.Premises.{unmerged_none, map_put}
use Rattle.writer.proofs.premise.put_map_equalities.Goals as goal

pub returns-then-none_set-clause-put : goal.returns-then-none_set-clause-put
returns-then-none_set-clause-put c = λ state e.
    let merged = sym c.none_set.ensures ∙ c.if-none_set.true in
    unsaid _ _ (unmerged_none c.args.r.now e c.requires.reaching c.r.invariant.sig c.requires.by_map.behind (rw c.masks.ensures.merged at merged))
    c.requires.from_le_count_limit

pub put_equalities_bytes-requires-clause-given_out : goal.put_equalities_bytes-requires-clause-given_out
put_equalities_bytes-requires-clause-given_out c =
    let row = c.row-row.ensures.given_out c.reached_source.ensures.reaching.reached in
    rw (c.link.ensures, ← c.reached_source.ensures.source_value, ← c.r.view_is) (rw (← c.r.view_is) at row)

pub returns-clause-put : goal.returns-clause-put
returns-clause-put c = λ state e.
    let i = c.r.inside in
    rw (← c.r.view_is)
    (map_put (reach_by i.bytes.now i.tables.now i.types.now) (rw (← c.r.view_is) at e) (rw (← c.r.view_is) at c.requires.reaching) _
    (rw (c.link.ensures, c.row-row.ensures.value, c.reached_source.ensures.source_value, ← c.r.view_is) at c.put_equalities_bytes.ensures.put))
