-- The variables of elements.
use Prim.Native.Nat.{ℕ, ◌+◌, ◌≤◌, ◌<◌}
use native.Mathlib.Omega.{arith}
use native.Mathlib.Nat.{zero-add}
use mathlib.Core.Bool.{Bool, true, false, ◌||◌}
use mathlib.Core.List.{List, [], ◌∷◌, ◌++◌}
use mathlib.Core.Path.{◌≡◌, refl, sym, ◌∙◌}
use lib.Dec.{eqb}
use lib.ListN.{length, get_or, set, take, get_or-eq_default}
use Rattle.definition.specs.Base.{pick, each, has, any, place_from}
use Rattle.definition.specs.Names.{numbers_of, variable_at}
use Rattle.definition.specs.Rule.{Structure}
use Rattle.definition.specs.Writer.{two_bytes}
use Rattle.group.proofs.Writing.{vars_from, vars_on, vars_end}
use Rattle.laws.proofs.Lists.{never, length_each, get_d_each, each_append}
use Rattle.records.proofs.Parts.{take_more, store_more}
use Rattle.rule.specs.Elements.{Finds}
use Rattle.std.proofs.Common.{Some, None}

-- Where a number is not in a list, its place is behind the list.
place_behind : (i e : ℕ) (ns : List ℕ) → has e ns ≡ false → place_from i e ns ≡ i + length ns
unfolding has any place_from
place_behind i e [] h = omega arith
place_behind i e (n ∷ ns) h = go (eqb n e) (place_behind (i + 1) e ns) h
  where
    go : (b : Bool) → (has e ns ≡ false → place_from (i + 1) e ns ≡ i + 1 + length ns) → (b || has e ns) ≡ false
        → pick b i (place_from (i + 1) e ns) ≡ i + length (n ∷ ns)
    go true f q = never refl q
    go false f q = let r = f q in omega arith

-- An element's variable stands at its place; behind the elements there is none.
module _ (st : Structure) (vars : List ℕ) {e : ℕ} where
  pub variable_found : {i : ℕ} → Finds (Some i) e (numbers_of st) → get_or vars i 0 ≡ variable_at st vars e
  unfolding variable_at
  variable_found f = rw (← f.is.0)

  pub variable_absent : length vars ≡ length (numbers_of st) → Finds None e (numbers_of st) → 0 ≡ variable_at st vars e
  unfolding variable_at
  variable_absent l f =
      let p : place_from 0 e (numbers_of st) ≡ length (numbers_of st) = place_behind 0 e (numbers_of st) f.is ∙ zero-add _ in
      rw p (sym (get_or-eq_default vars 0 (omega arith)))

-- The variables of several elements: one more is stored, and the next is written.
module _ (variable : ℕ → ℕ) (es : List ℕ) (i : ℕ) where
  module _ (h : i < length es) {v : ℕ} (q : v ≡ variable (get_or es i 0)) where
    pub variables_more : (vars : List ℕ) → i < length vars → take i vars ≡ each variable (take i es)
        → take (i + 1) (set vars i v) ≡ each variable (take (i + 1) es)
    unfolding each
    variables_more vars room t = rw (store_more vars i v room, t, take_more es i 0 h, each_append, q)

    pub variables_on : vars_from (each variable es) i ≡ two_bytes v ++ vars_from (each variable es) (i + 1)
    variables_on =
        let n = length_each variable es in
        let g : v ≡ get_or (each variable es) i 0 = rw q (sym (get_d_each variable es i 0 0 h)) in
        rw g (vars_on (each variable es) i (omega arith))

  pub variables_end : length es ≤ i → vars_from (each variable es) i ≡ []
  variables_end h = let n = length_each variable es in vars_end (each variable es) i (omega arith)

pub variables_many : (variable : ℕ → ℕ) (es : List ℕ) {count : ℕ} → count ≡ length es → length (each variable es) ≡ count
variables_many variable es q = rw q (length_each variable es)
