-- The variables of the keys of an image, and their Equalities.
use Prim.Native.Nat.{ℕ, ◌+◌, ◌-◌, ◌≤◌, ◌<◌}
use native.Mathlib.Omega.{arith}
use mathlib.Core.Bool.{true, false}
use mathlib.Core.List.{List, [], ◌∷◌, ◌++◌, append-nil}
use mathlib.Core.Path.{◌≡◌, refl, ◌∙◌}
use lib.Dec.{eqb}
use lib.ListN.{length, get_or, set, take, drop, drop_of_length-le, length-set, length-drop}
use lib.Seq.{take_all}
use Rattle.definition.specs.Base.{keep, each, joined}
use Rattle.definition.specs.Letters.{equality}
use Rattle.definition.specs.Limits.{field_limit}
use Rattle.definition.specs.Names.{fiber}
use Rattle.definition.specs.Rule.{Pair}
use Rattle.definition.specs.Writer.{statement_field, field_bytes, record_bytes}
use Rattle.laws.proofs.ByteForm.{statements_append}
use Rattle.laws.proofs.Lists.{each_append, length_each}
use Rattle.records.proofs.Link.{one_more}
use Rattle.records.proofs.Lists.{keep_append}
use Rattle.records.proofs.Parts.{take_more, store_more}
use Rattle.laws.specs.Bytes.{statement_bytes}
use Rattle.rule.specs.Pairs.{no_pair}
use Rattle.statements.specs.Equalities.{equality_of, equalities_among, equalities_over}
use Rattle.statements.proofs.Bytes.{statements_cons, statements_none}

-- The keys of an image, with one more pair.
module _ (ps : List Pair) (q : Pair) (e : ℕ) where
  more_same : true ≡ eqb q.image e → fiber (ps ++ (q ∷ [])) e ≡ fiber ps e ++ (q.key ∷ [])
  unfolding fiber keep each
  more_same h = rw (keep_append (λ (p : Pair). eqb p.image e) ps (q ∷ []), each_append, ← h)

  more_other : false ≡ eqb q.image e → fiber (ps ++ (q ∷ [])) e ≡ fiber ps e
  unfolding fiber keep each
  more_other h = rw (keep_append (λ (p : Pair). eqb p.image e) ps (q ∷ []), each_append, ← h, append-nil)

-- The loop along the pairs: the variables of the keys of an image among the first of them.
pub record FiberTo (variable : ℕ → ℕ) (pairs : List Pair) (e : ℕ) (vars : List ℕ) (count p : ℕ) : Type 0 where
  pub long : length vars ≡ field_limit
  pub few : count ≤ p
  pub same : take count vars ≡ each variable (fiber (take p pairs) e)

pub fiber_start : (variable : ℕ → ℕ) (pairs : List Pair) (e : ℕ) {vars : List ℕ} → length vars ≡ field_limit → FiberTo variable pairs e vars 0 0
unfolding fiber keep each
fiber_start variable pairs e l = record { long = l; few = omega arith; same = refl }

module _ {variable : ℕ → ℕ} {pairs : List Pair} {e : ℕ} {vars : List ℕ} {count p : ℕ} (w : FiberTo variable pairs e vars count p) where
  pub fiber_end : length pairs ≤ p → take count vars ≡ each variable (fiber pairs e)
  fiber_end l = rw (take_all p pairs l) at w.same

  module _ (l : p < length pairs) where
    pub fiber_pass : false ≡ eqb (get_or pairs p no_pair).image e → FiberTo variable pairs e vars count (p + 1)
    fiber_pass d = record {
      long = w.long;
      few = omega (arith, w.few);
      same = w.same ∙ rw (take_more pairs p no_pair l, more_other (take p pairs) (get_or pairs p no_pair) e d);
    }

    pub fiber_next : length pairs ≤ field_limit → true ≡ eqb (get_or pairs p no_pair).image e → {k v : ℕ} → k ≡ (get_or pairs p no_pair).key → v ≡ variable k
        → FiberTo variable pairs e (set vars count v) (count + 1) (p + 1)
    unfolding each
    fiber_next most a {k} {v} q i =
        let room : count < length vars = omega (arith, w.few, w.long) in
        record {
          long = length-set vars count v ∙ w.long;
          few = omega (arith, w.few);
          same = rw (
            store_more vars count v room,
            w.same,
            take_more pairs p no_pair l,
            more_same (take p pairs) (get_or pairs p no_pair) e a,
            each_append,
            i,
            q,
          );
        }

-- Of one variable alone there is no Equality.
equal_few : (types vs : List ℕ) → length vs ≤ 1 → equalities_among types vs ≡ []
unfolding equalities_among each
equal_few types [] h = refl
equal_few types (v ∷ []) h = refl
equal_few types (v ∷ w ∷ vs) h = absurd (omega arith)

-- The Equalities of a variable with later ones; of several variables; of the images from one on.
unfoldable pub later_bytes : ℕ → List ℕ → ℕ → List ℕ → List ℕ
later_bytes letter types v vs = statement_bytes letter (each (equality_of types v) vs)

unfoldable pub among_bytes : ℕ → List ℕ → List ℕ → List ℕ
among_bytes letter types vs = statement_bytes letter (equalities_among types vs)

unfoldable pub over_bytes : ℕ → (ℕ → ℕ) → List Pair → List ℕ → List ℕ → List ℕ
over_bytes letter variable pairs types els = statement_bytes letter (equalities_over variable pairs types els)

module _ (letter : ℕ) (types : List ℕ) where
  -- A loop along the later variables, and one along the variables, each with those behind it, which are lent.
  module _ (v : ℕ) (vs : List ℕ) (i : ℕ) where
    pub later_on : i < length vs → {symbol : ℕ} → symbol ≡ get_or types v 0 → later_bytes letter types v (drop i vs)
        ≡ field_bytes (statement_field letter (record { kind = equality; symbol = symbol; variables = v ∷ get_or vs i 0 ∷ [] }))
        ++ later_bytes letter types v (drop (i + 1) vs)
    unfolding later_bytes each equality_of
    later_on h q = rw (one_more vs i h, q) (statements_cons letter _ _)

    pub later_end : length vs ≤ i → later_bytes letter types v (drop i vs) ≡ []
    unfolding later_bytes each statement_bytes record_bytes joined
    later_end h = rw (drop_of_length-le vs h)

  module _ (vs : List ℕ) (i : ℕ) where
    pub among_on : i < length vs → among_bytes letter types (drop i vs)
        ≡ statement_bytes letter (each (equality_of types (get_or vs i 0)) (take (length vs - (i + 1)) (drop (i + 1) vs)))
        ++ among_bytes letter types (drop (i + 1) vs)
    unfolding among_bytes equalities_among
    among_on h =
        let t : take (length vs - (i + 1)) (drop (i + 1) vs) ≡ drop (i + 1) vs = take_all _ _ (rw length-drop (omega arith)) in
        rw (one_more vs i h, t) (statements_append letter (each (equality_of types (get_or vs i 0)) (drop (i + 1) vs)) _)

    pub among_end : length vs ≤ i → among_bytes letter types (drop i vs) ≡ []
    unfolding among_bytes equalities_among each statement_bytes record_bytes joined
    among_end h = rw (drop_of_length-le vs h)

  module _ (variable : ℕ → ℕ) (pairs : List Pair) (els : List ℕ) (j : ℕ) where
    module _ (h : j < length els) where
      -- Those of an element, by what is the same function and the same pairs.
      pub els_on : {e : ℕ} {own : ℕ → ℕ} {ps : List Pair} → e ≡ get_or els j 0 → own ≡ variable → ps ≡ pairs
          → over_bytes letter variable pairs types (drop j els)
          ≡ statement_bytes letter (equalities_among types (each own (fiber ps e))) ++ over_bytes letter variable pairs types (drop (j + 1) els)
      unfolding over_bytes equalities_over joined
      els_on q o r = rw (one_more els j h, q, o, r) (statements_append letter (equalities_among types (each variable (fiber pairs (get_or els j 0)))) _)

      pub els_pass : length (fiber pairs (get_or els j 0)) ≤ 1
          → over_bytes letter variable pairs types (drop j els) ≡ over_bytes letter variable pairs types (drop (j + 1) els)
      els_pass f =
          let n : length (each variable (fiber pairs (get_or els j 0))) ≤ 1 = rw (length_each variable (fiber pairs (get_or els j 0))) f in
          els_on refl refl refl ∙ rw (equal_few types (each variable (fiber pairs (get_or els j 0))) n, statements_none letter) refl

    pub els_end : length els ≤ j → over_bytes letter variable pairs types (drop j els) ≡ []
    unfolding over_bytes equalities_over joined each statement_bytes record_bytes
    els_end h = rw (drop_of_length-le els h)
