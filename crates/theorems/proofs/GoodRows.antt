-- Statements of a sound structure's rows and elements are good: a row's symbol and columns are its field's, its variables those of
-- elements that the structure has.
use Prim.Native.Nat.{ℕ, zero, suc, ◌<◌}
use native.Mathlib.Omega.{arith}
use mathlib.Core.Path.{◌≡◌, refl}
use mathlib.Core.Logic.{⊎_elim}
use mathlib.Core.Bool.{false}
use mathlib.Core.List.Memᴰ
use mathlib.Core.List.{List, [], ◌∷◌}
use lib.ListN.{length, length-append}
use Rattle.definition.specs.Base.{each, but_last, empty, ◌∈◌}
use Rattle.definition.specs.Letters.{predicate, function, member, type_set, func_domain}
use Rattle.definition.specs.Signature.{Signature, type_parents, arity, symbol_count}
use Rattle.definition.specs.Rule.{Structure, Element, Row}
use Rattle.definition.specs.Group.{Statement, premise_kinds, conclusion_kinds}
use Rattle.definition.specs.Names.{numbers_of}
use Rattle.definition.specs.Rows.{member_row, rows_of, row_statement, type_sets}
use Rattle.laws.proofs.Lists.{never, mem_keep, mem_each, length_each}
use Rattle.laws.proofs.RowLaws.{but_last_mem, length_but_last, rows_cases, number_in, member_elements}
use Rattle.laws.specs.Sound.{SoundRow, SoundStructure}
use Rattle.theorems.proofs.Good.{GoodStatement}

-- The kinds of rows are premise and conclusion kinds.
three_first : (rest : List ℕ) (k : ℕ) → k < 3 → k ∈ (predicate ∷ function ∷ member ∷ rest)
three_first rest zero h = Memᴰ.head refl
three_first rest (suc zero) h = Memᴰ.tail (Memᴰ.head refl)
three_first rest (suc (suc zero)) h = Memᴰ.tail (Memᴰ.tail (Memᴰ.head refl))
three_first rest (suc (suc (suc k))) h = absurd (omega arith)

pub premise_three : (k : ℕ) → k < 3 → k ∈ premise_kinds
premise_three = three_first _

pub conclusion_three : (k : ℕ) → k < 3 → k ∈ conclusion_kinds
conclusion_three = three_first _

module _ (sig : Signature) (st : Structure) (sound : SoundStructure sig st) where
  -- Statements over its variables.
  module _ (kinds : List ℕ) (three : (k : ℕ) → k < 3 → k ∈ kinds) (variable : ℕ → ℕ) (count : ℕ)
      (below : (e : ℕ) → e ∈ numbers_of st → variable e < count) where
    variables_below : (els : List ℕ) → ((e : ℕ) → e ∈ els → e ∈ numbers_of st) → (v : ℕ) → v ∈ each variable els → v < count
    variables_below els h v m = let r = mem_each variable els m in rw r.2 (below r.0 (h r.0 r.1))

    -- A row of a predicate or a function.
    of_kind : (k : ℕ) → k < 2 → (r : Row) → r.kind ≡ k → SoundRow (symbol_count sig k) (arity sig k) (numbers_of st) r
        → GoodStatement sig kinds count (row_statement variable r)
    unfolding row_statement
    of_kind k l r q s = record {
      kind_in = rw q (three k (omega arith));
      symbol_in = rw q s.symbol_in;
      variables_in = variables_below r.elements s.elements_in;
      columns = rw (length_each, q) s.columns_count;
      has_parents = λ e. let z : r.kind ≡ member = e in absurd (omega arith);
    }

    pred_good : {r : Row} → r ∈ st.pred_rows → GoodStatement sig kinds count (row_statement variable r)
    unfolding symbol_count arity
    pred_good {r} m =
        let s = sound.preds_sound r m in
        of_kind predicate (omega arith) r s.0 (record { symbol_in = s.1.symbol_in; elements_in = s.1.elements_in; columns_count = s.1.columns_count })

    func_good : {r : Row} → r ∈ st.func_rows → GoodStatement sig kinds count (row_statement variable r)
    unfolding symbol_count arity
    func_good {r} m =
        let s = sound.funcs_sound r m in
        of_kind function (omega arith) r s.0 (record { symbol_in = s.2.symbol_in; elements_in = s.2.elements_in; columns_count = s.2.columns_count })

    member_good : (x : Element) → x ∈ st.elements → empty x.parents ≡ false → GoodStatement sig kinds count (row_statement variable (member_row x))
    unfolding row_statement member_row symbol_count arity
    member_good x m h = let s = sound.elements_sound x m in record {
      kind_in = three 2 (omega arith);
      symbol_in = s.type_in;
      variables_in = variables_below (member_row x).elements (member_elements sig st sound x m);
      columns = rw (length_each, length-append) (omega (arith, s.parents_count));
      has_parents = λ q. same_length_empty x.parents (type_parents sig x.type) s.parents_count h;
    }
      where
        same_length_empty : (xs ys : List ℕ) → length xs ≡ length ys → empty xs ≡ false → empty ys ≡ false
        same_length_empty [] ys e h = never refl h
        same_length_empty (x ∷ xs) [] e h = absurd (omega arith)
        same_length_empty (x ∷ xs) (y ∷ ys) e h = refl

    pub row_good : {r : Row} → r ∈ rows_of st → GoodStatement sig kinds count (row_statement variable r)
    row_good m = ⊎_elim (λ p. pred_good p) (⊎_elim (λ f. func_good f) (λ w. rw w.3 (member_good w.0 w.1 w.2))) (rows_cases st m)

    -- FuncDomain of a function row.
    pub domain_good : func_domain ∈ kinds → {r : Row} → r ∈ st.func_rows
        → GoodStatement sig kinds count (record { kind = func_domain; symbol = r.symbol; variables = each variable (but_last r.elements) })
    unfolding symbol_count arity
    domain_good k {r} m = let s = sound.funcs_sound r m in record {
      kind_in = k;
      symbol_in = s.2.symbol_in;
      variables_in = variables_below (but_last r.elements) (λ e i. s.2.elements_in e (but_last_mem r.elements i));
      columns = rw (length_each, length_but_last) (omega (arith, s.2.columns_count));
      has_parents = λ q. let z : func_domain ≡ member = q in absurd (omega arith);
    }

  -- TypeSets of some of its parentless elements.
  pub type_set_good : (kinds : List ℕ) → type_set ∈ kinds → (variable : ℕ → ℕ) (count : ℕ) → ((e : ℕ) → e ∈ numbers_of st → variable e < count)
      → (els : List Element) → ((x : Element) → x ∈ els → x ∈ st.elements) → (s : Statement) → s ∈ type_sets variable els → GoodStatement sig kinds count s
  unfolding type_sets symbol_count arity
  type_set_good kinds k variable count below els sub s m =
      let r = mem_each _ _ m in let q = mem_keep _ els r.1 in let x = sub r.0 q.0 in
      rw r.2 record {
        kind_in = k;
        symbol_in = (sound.elements_sound r.0 x).type_in;
        variables_in = λ v i. rw (Memᴰ.eq_of_singleton i) (below _ (number_in st x));
        columns = refl;
        has_parents = λ q. let z : type_set ≡ member = q in absurd (omega arith);
      }
