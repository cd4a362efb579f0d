use mathlib.Core.Path.{◌≡◌}
use lib.ListN.{length, take, drop}
use Rattle.definition.specs.Base.{same_list}
use Rattle.rule.specs.Els.{els_in}
use Rattle.rows.proofs.table.same_elements.Given as goal

abbrev pub invariant-loop-j : goal.invariant-loop-j
invariant-loop-j l =
    same_list (els_in l.l) (take (length (els_in l.l)) l.places) ≡ same_list (drop l.j (els_in l.l)) (drop l.j (take (length (els_in l.l)) l.places))
