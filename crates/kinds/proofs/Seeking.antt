-- The row that yields an element, and whether its arguments have flags.
use Prim.Native.Nat.{ℕ, ◌+◌, ◌-◌, ◌≤◌, ◌<◌}
use native.Mathlib.Omega.{arith}
use mathlib.Core.Bool.{Bool, true, false}
use mathlib.Core.List.{List, [], ◌∷◌}
use mathlib.Core.Option.{Option}
use mathlib.Core.Path.{◌≡◌, refl, sym, ◌∙◌, ap}
use lib.Dec.{eqb}
use lib.ListN.{length, get_or, take, drop}
use lib.Seq.{drop-cons, take_all}
use Rattle.definition.specs.Base.{or_default, each, first_of, but_last, ◌∈◌}
use Rattle.definition.specs.Kinds.{yields}
use Rattle.definition.specs.Rows.{last_element}
use Rattle.definition.specs.Rule as definition
use Rattle.definition.specs.Rule.{Element, row_of}
use Rattle.laws.proofs.Lists.{has_mem, mem_has, never, mem_at, get_d_each, length_each}
use Rattle.laws.proofs.Numbering.{place_in}
use Rattle.records.proofs.Along.{all_from, all_no, all_on}
use Rattle.records.specs.Iter.{rest_of, fields_left}
use Rattle.records.proofs.FieldsIn.{fields_few}
use Rattle.records.proofs.Lists.{last_some as last_is, last_none as none_last}
use Rattle.records.proofs.Parts.{apart, but_last_take}
use Rattle.rule.specs.Elements.{Finds}
use Rattle.rule.specs.Row.{row_from, row_kind, rows_left}
use Rattle.rule.specs.Views.{listed_numbers}
use Rattle.rule.specs.declared.row.Row.{Row}
use Rattle.rule.specs.declared.row.Rows.{Rows}
use Rattle.rows.specs.Table.{no_row}
use Rattle.kinds.specs.Yielding.{Yields}
use Rattle.std.proofs.Common.{Some, None}

-- The last element of a row, and all but it.
pub last_some : (r : Row) {count : ℕ} → count ≡ length (row_from r).elements → (count ≡ 0 → ⊥)
    → get_or (row_from r).elements (count - 1) 0 ≡ last_element (row_from r)
unfolding last_element
last_some r {count} e d = sym (ap (λ (o : Option ℕ). or_default o 0) (last_is (row_from r).elements (count - 1) 0 (omega arith)))

pub last_none : (r : Row) {count : ℕ} → count ≡ length (row_from r).elements → count ≡ 0 → 0 ≡ last_element (row_from r)
unfolding last_element
last_none r e z = sym (ap (λ (o : Option ℕ). or_default o 0) (none_last (row_from r).elements (sym e ∙ z)))

pub but_last_first : (xs : List ℕ) {n : ℕ} → n ≡ length xs - 1 → take n xs ≡ but_last xs
unfolding but_last
but_last_first [] {n} e = take_all n [] (omega arith)
but_last_first (x ∷ xs) {n} e = sym (but_last_take (x ∷ xs) n (omega arith))

-- What stands at a place is first of what is left from there on.
stands : {A : Type 0} (xs : List A) (i : ℕ) (d : A) {x : A} {rest : List A} → drop i xs ≡ x ∷ rest → get_or xs i d ≡ x
stands xs i d e = let c = drop-cons xs i d (apart xs i e).inside in cc

-- A search along rows: so many were passed, none of which yields e, so the first that does is among those left.
pub record Sought (e : ℕ) (rows left : List definition.Row) (place : ℕ) : Type 0 where
  pub passed : drop place rows ≡ left
  pub same : first_of (yields e) rows ≡ first_of (yields e) left

pub seek_start : {e : ℕ} {rows : List definition.Row} → Sought e rows rows 0
seek_start = record { passed = refl; same = refl }

module _ {e place : ℕ} {rows left : List definition.Row} (w : Sought e rows left place) where
  pub seek_end : left ≡ [] → Yields None e rows
  unfolding first_of
  seek_end z = record { is = w.same ∙ rw z }

  -- A row's result is another element, or e.
  module _ (r : Row) {rest : List definition.Row} (step : left ≡ row_from r ∷ rest) {result : ℕ} (is : result ≡ last_element (row_from r)) where
    pub seek_miss : eqb result e ≡ false → Sought e rows rest (place + 1)
    unfolding first_of
    seek_miss d = record { passed = (apart rows place (w.passed ∙ step)).left; same = w.same ∙ rw (step, ← is, d) }

    pub seek_found : eqb result e ≡ true → Yields (Some (record { place = place; row = r })) e rows
    unfolding first_of
    seek_found d = let e = w.passed ∙ step in
        record { is = ((apart rows place e).inside, stands rows place no_row e, w.same ∙ rw (step, ← is, d)) }

-- A structure's elements and their numbers are equally many, and one that was found is among them.
pub listed_many : (els : List Element) → length (listed_numbers els) ≡ length els
listed_many els = length_each (λ (e : Element). e.number) els

pub found_listed : (els : List Element) {i e : ℕ} → Finds (Some i) e (listed_numbers els) → i < length els
found_listed els f = let n = listed_many els in let l = f.is.1 in omega arith

-- The flag of an element that was found, and the flags of those behind it.
module _ (p : ℕ → Bool) (xs : List ℕ) (flags : List Bool) {els : List ℕ} {n : ℕ} (many : n ≡ length els) {j e : ℕ} (h : j < length xs)
    (is : e ≡ get_or xs j 0) where
  flag_of : take n flags ≡ each p els → {i : ℕ} → Finds (Some i) e els → get_or (take n flags) i false ≡ p e
  flag_of f {i} w =
      let at : get_or els i 0 ≡ e = rw w.is.0 (place_in e els (has_mem e els w.is.2)).1 in rw f (get_d_each p els i 0 false w.is.1 ∙ ap p at)

  pub all_more : take (length els) flags ≡ each p els → {i : ℕ} → Finds (Some i) e els → get_or (take n flags) i false ≡ true
      → all_from p xs j ≡ all_from p xs (j + 1)
  all_more f w q = all_on p xs refl h (sym is) (sym (flag_of (rw many f) w) ∙ q)

  pub all_stop : take (length els) flags ≡ each p els → {i : ℕ} → Finds (Some i) e els → get_or (take n flags) i false ≡ false → all_from p xs j ≡ false
  all_stop f w q = all_no p xs refl h (sym is) (sym (flag_of (rw many f) w) ∙ q)

pub all_named : {A : Type 0} (xs els : List ℕ) {j e : ℕ} → j < length xs → e ≡ get_or xs j 0 → ((d : ℕ) → d ∈ xs → d ∈ els) → Finds None e els → A
all_named xs els {j} {e} h is named w = never (mem_has e els (named e (rw is (mem_at xs j 0 h)))) w.is

-- A section has fewer rows than bytes.
pub rows_few : (rows : Rows) → length (rows_left rows) ≤ length (rest_of rows.fields)
rows_few rows = let n = length_each (row_of (row_kind rows.kind)) (fields_left rows.fields) in let f = fields_few (rest_of rows.fields) in omega arith
