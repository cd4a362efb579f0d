use Rattle.std.proofs.Common.{◌≡◌, length, take}
use Rattle.definition.specs.Base.{each}
use Rattle.definition.specs.Names.{numbers_of, variable_at}
use Rattle.definition.specs.Rule.{Structure}
use Rattle.rule.specs.Els.{els_in}
use Rattle.rule.specs.Views.{listed_numbers}
use Rattle.statements.proofs.numbered.vars_among.Given as goal

abbrev pub invariant-loop-i : goal.invariant-loop-i
invariant-loop-i l = (length l.found ≡ 8) × ((structure : Structure) → numbers_of structure ≡ listed_numbers l.elements
    → take l.i l.found ≡ each (variable_at structure l.vars) (take l.i (els_in l.els)))
