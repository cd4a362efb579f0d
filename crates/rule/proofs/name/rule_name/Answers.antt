use Prim.Native.Nat.{◌+◌, ◌-◌}
use native.Mathlib.Omega.{arith}
use borrow.Author.Rules.{rules}
use mathlib.Core.Path.{◌≡◌, sym}
use Rattle.records.specs.Places.{stretch, two_at}
use Rattle.records.proofs.Numbers.{length_stretch}
use Rattle.rule.proofs.name.rule_name.Goals as goal

pub two-requires : goal.two-requires
two-requires c = let h = c.requires in let i = h.inside in let z = h.sized in omega arith

pub slice_bounds-result-count : goal.slice_bounds-result-count
slice_bounds-result-count c = let h = c.requires in let z = h.sized in let v = c.two.ensures.value in omega arith

pub slice_bounds-result-start : goal.slice_bounds-result-start
slice_bounds-result-start c = let h = c.requires in let i = h.inside in let z = h.sized in let v = c.two.ensures.value in search rules

pub slice_bounds-result-end : goal.slice_bounds-result-end
slice_bounds-result-end c = let h = c.requires in let i = h.inside in let z = h.sized in let v = c.two.ensures.value in search rules

pub returns-clause-value : goal.returns-clause-value
unfolding stretch
returns-clause-value c =
    let h = c.requires in
    let v : 3 + c.two.result - 5 ≡ two_at c.args.s.now 1 - 2 = rw c.two.ensures.value (omega arith) in
    rw v (sym h.name)

pub returns-clause-short : goal.returns-clause-short
unfolding stretch
returns-clause-short c =
    let h = c.requires in
    let i = h.inside in let z = h.sized in
    let v : 3 + c.two.result - 5 ≡ two_at c.args.s.now 1 - 2 = rw c.two.ensures.value (omega arith) in
    let n = length_stretch c.args.s.now 5 (two_at c.args.s.now 1 - 2) (omega arith) in
    rw v (omega arith)
