use mathlib.Core.Path.{◌≡◌}
use Prim.Native.Nat.{ℕ}
use Rattle.definition.specs.Base.{all, has}
use Rattle.rule.specs.Els.{els_in}
use Rattle.rule.specs.Views.{listed_numbers}
use Rattle.records.proofs.Along.{all_from}
use Rattle.rule.proofs.element_list.ElementList.has_elements.Given as goal

abbrev pub invariant-loop-i : goal.invariant-loop-i
invariant-loop-i l =
    let named = λ (e : ℕ). has e (listed_numbers l.self) in
    all named (els_in l.list) ≡ all_from named (els_in l.list) l.i
