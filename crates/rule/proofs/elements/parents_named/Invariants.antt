use mathlib.Core.Path.{◌≡◌}
use Prim.Native.Nat.{ℕ}
use Rattle.definition.specs.Base.{all, has}
use Rattle.records.specs.Iter.{fields_in}
use Rattle.rule.specs.Elements.{named_by}
use Rattle.rule.specs.Els.{els_in}
use Rattle.records.proofs.Along.{all_from}
use Rattle.rule.proofs.elements.parents_named.Given as goal

abbrev pub invariant-loop-i : goal.invariant-loop-i
invariant-loop-i l =
    let named = λ (e : ℕ). has e (named_by (fields_in l.section)) in
    all named (els_in l.list) ≡ all_from named (els_in l.list) l.i
