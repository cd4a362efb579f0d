-- How many bytes statements have. Where nothing of them fits they are only counted.
use Prim.Native.Nat.{ℕ, zero, suc, ◌+◌, ◌-◌, ◌*◌, ◌≤◌, ◌<◌}
use native.Mathlib.Omega.{arith}
use native.Mathlib.Decide.{ℕ_discrete}
use native.Mathlib.Nat.{suc-mul, mul-suc}
use mathlib.Core.Bool.{Bool, true, false}
use mathlib.Core.List.{List, [], ◌∷◌}
use mathlib.Core.Path.{◌≡◌, refl, sym, ◌∙◌, ap}
use lib.Dec.{eqb}
use lib.ListN.{length, get_or, drop, length-append, drop_of_length-le}
use borrow.Author.Tests.{eq-eqb, ne_eqb}
use Rattle.definition.specs.Base.{pick, cons_if, keep, each, empty}
use Rattle.definition.specs.Kinds.{Side, variable_in}
use Rattle.definition.specs.Names.{numbers_of}
use Rattle.definition.specs.Rows.{member_row, row_before, insert_row, sort_rows, members, row_statement}
use Rattle.definition.specs.Rule.{Structure, Element, Row}
use Rattle.definition.specs.Writer.{statement_field, field_bytes}
use Rattle.flags.specs.Flags.{flag_at, none_set}
use Rattle.flags.specs.declared.Mask.{Mask}
use Rattle.group.proofs.Writing.{statement_long}
use Rattle.laws.proofs.ByteForm.{statements_append}
use Rattle.laws.proofs.Lists.{length_each}
use Rattle.laws.specs.Bytes.{statement_bytes}
use Rattle.records.specs.Buffer.{Put, capped, count_limit}
use Rattle.records.proofs.Tail.{nothing, counted}
use Rattle.rows.specs.Members.{member_in}
use Rattle.rule.specs.Rows.{member_rows}
use Rattle.rule.proofs.Finding.{Ascending}
use Rattle.rule.specs.Views.{no_element}
use Rattle.statements.specs.Equalities.{equality_of, equalities_among}
use Rattle.statements.specs.Parts.{rows_said, members_said, types_said, type_set_of}
use Rattle.statements.specs.Said.{flagged, member_flag, said_by}
use Rattle.statements.specs.declared.masks.Masks.{Masks}
use Rattle.statements.specs.declared.masks.SaidAs.TheVariants.{Predicates, Functions}
use Rattle.statements.proofs.Bytes.{statements_cons, statements_none}
use Rattle.statements.proofs.Elements.{own_flag, elements_left, empty_is, member_many, type_said, type_unsaid, types_from, types_on, types_pass, types_end}
use Rattle.statements.proofs.Unsaid.{unsaid, members_none, types_none}
use Rattle.statements.proofs.Whole.{apps_parts, said_parts}

-- Bytes behind the buffer's end are counted.
pub beyond : {out : List ℕ} (p : List ℕ) {from r : ℕ} → r ≡ capped (from + length p) → length out ≤ from → from ≤ count_limit → Put out out p from r
beyond {out} [] {from} {r} e h l = let q : r ≡ from = omega arith in rw q (nothing out from l)
beyond {out} (x ∷ p) {from} e h l = counted out (x ∷ p) from e (omega arith)

-- A count under way: it began at `from`, and of `all` bytes `rest` are left.
pub record Counting (from at all rest : ℕ) : Type 0 where
  pub same : capped (at + rest) ≡ capped (from + all)

-- A statement is counted, or none; at the end nothing is left.
module _ {from at all rest : ℕ} (w : Counting from at all rest) where
  pub count_on : (e : ℕ) {rest' r : ℕ} → rest ≡ e + rest' → r ≡ capped (at + e) → Counting from r all rest'
  count_on e q s = record { same = omega (arith, w.same) }

  pub count_pass : {rest' : ℕ} → rest ≡ rest' → Counting from at all rest'
  count_pass q = record { same = omega (arith, w.same) }

  pub count_end : rest ≡ 0 → at ≤ count_limit → at ≡ capped (from + all)
  count_end q l = omega (arith, w.same)

-- How many bytes the kept rows have as statements: six before the variables, and two for each element.
unfoldable pub rows_size : (Row → Bool) → List Row → ℕ
rows_size p [] = 0
rows_size p (r ∷ rows) = pick (p r) (6 + 2 * length r.elements) 0 + rows_size p rows

-- A row is said in as many variables as it has elements.
row_long : (variable : ℕ → ℕ) (r : Row) → length (row_statement variable r).variables ≡ length r.elements
unfolding row_statement
row_long variable r = length_each variable r.elements

-- So many bytes they have.
rows_size_lem : (letter : ℕ) (variable : ℕ → ℕ) (p : Row → Bool) (rows : List Row)
    → length (statement_bytes letter (each (row_statement variable) (keep p rows))) ≡ rows_size p rows
unfolding rows_size keep each
rows_size_lem letter variable p [] = rw statements_none refl
rows_size_lem letter variable p (r ∷ rows) = go (p r) (rows_size_lem letter variable p rows)
  where
    go : (b : Bool) → length (statement_bytes letter (each (row_statement variable) (keep p rows))) ≡ rows_size p rows
        → length (statement_bytes letter (each (row_statement variable) (cons_if b r (keep p rows)))) ≡ pick b (6 + 2 * length r.elements) 0 + rows_size p rows
    go true e = let a = statement_long letter (row_statement variable r) in let n = row_long variable r in rw (statements_cons, length-append) (omega arith)
    go false e = omega arith

-- Their order does not matter.
insert_size : (p : Row → Bool) (r : Row) (rows : List Row) → rows_size p (insert_row r rows) ≡ rows_size p (r ∷ rows)
unfolding rows_size insert_row
insert_size p r [] = refl
insert_size p r (q ∷ rows) = go (row_before r q) (insert_size p r rows)
  where
    go : (b : Bool) → rows_size p (insert_row r rows) ≡ rows_size p (r ∷ rows)
        → rows_size p (pick b (r ∷ q ∷ rows) (q ∷ insert_row r rows)) ≡ rows_size p (r ∷ q ∷ rows)
    go true e = refl
    go false e = omega arith

sort_size : (p : Row → Bool) (rows : List Row) → rows_size p (sort_rows rows) ≡ rows_size p rows
unfolding rows_size sort_rows
sort_size p [] = refl
sort_size p (r ∷ rows) = insert_size p r (sort_rows rows) ∙ ap (λ (n : ℕ). pick (p r) (6 + 2 * length r.elements) 0 + n) (sort_size p rows)

-- How many the elements have from a place on: as flagged member rows, as TypeSets, and together.
abbrev members_left : Structure → Mask → ℕ → ℕ
members_left st mask i = rows_size (member_flag st mask) (member_rows (drop i st.elements))

abbrev types_left : ℕ → (ℕ → ℕ) → Structure → Mask → ℕ → ℕ
types_left letter variable st mask i = length (types_from letter variable mask st.elements i)

unfoldable pub elements_size : ℕ → (ℕ → ℕ) → Structure → Mask → Mask → ℕ → ℕ
elements_size letter variable st members free i = members_left st members i + types_left letter variable st free i

module _ (letter : ℕ) (side : Side) (mask free : Mask) where
  abbrev both : ℕ
  both = length (statement_bytes letter (members_said side mask)) + length (statement_bytes letter (types_said side (flagged free side.structure.elements)))

  -- From the first place on these are the member rows in their order and the TypeSets.
  pub elements_all : elements_size letter (variable_in side) side.structure mask free 0 ≡ both
  unfolding elements_size member_rows types_from members
  elements_all =
      let a = rows_size_lem letter (variable_in side) (member_flag side.structure mask) (sort_rows (member_rows side.structure.elements)) in
      let b = sort_size (member_flag side.structure mask) (member_rows side.structure.elements) in
      omega arith

  -- Where no flag is set nothing is counted.
  pub elements_unsaid : {from : ℕ} → none_set mask ≡ true → none_set free ≡ true → from ≤ count_limit → from ≡ capped (from + both)
  elements_unsaid m f h =
      let a = (unsaid [] letter (members_none side mask m) h).size in
      let b = (unsaid [] letter (types_none side free f side.structure.elements) h).size in
      omega arith

-- A member row has a column for each parent and one for the element.
columns : (d : Element) {n : ℕ} → n ≡ length d.parents → length (member_row d).elements ≡ n + 1
unfolding member_row
columns d q = rw (length-append, q)

-- A loop along the elements.
module _ (st : Structure) (up : Ascending (numbers_of st)) (letter : ℕ) (variable : ℕ → ℕ) (members free : Mask) (i : ℕ) where
  pub elements_end : length st.elements ≤ i → elements_size letter variable st members free i ≡ 0
  unfolding elements_size member_rows keep each rows_size
  elements_end h = rw (types_end letter variable free st.elements i h, drop_of_length-le st.elements h)

  module _ (h : i < length st.elements) {d : Element} (q : d ≡ get_or st.elements i no_element) {n : ℕ} (m : n ≡ length d.parents) where
    left : drop i st.elements ≡ d ∷ drop (i + 1) st.elements
    left = rw q (elements_left st up h)

    without : empty d.parents ≡ eqb n 0
    without = rw m (empty_is d.parents)

    flag_is : member_flag st members (member_row d) ≡ flag_at members i
    unfolding member_in
    flag_is = rw q (own_flag st up h members)

    -- Without parents it is no member row, and with parents it has no TypeSet.
    no_member : n ≡ 0 → members_left st members i ≡ members_left st members (i + 1)
    unfolding member_rows keep
    no_member z = rw (left, without, eq-eqb _ _ z)

    member_left : (n ≡ 0 → ⊥) → members_left st members i ≡ pick (flag_at members i) (6 + 2 * (n + 1)) 0 + members_left st members (i + 1)
    unfolding member_rows keep each rows_size
    member_left z =
        let l : length (member_row d).elements ≡ n + 1 = columns d m in
        rw (left, without, ne_eqb _ _ z, flag_is, l)

    no_type : (n ≡ 0 → ⊥) → types_left letter variable st free i ≡ types_left letter variable st free (i + 1)
    no_type z = go (flag_at free i) refl
      where
        go : (b : Bool) → flag_at free i ≡ b → types_left letter variable st free i ≡ types_left letter variable st free (i + 1)
        go true f = rw (types_on letter variable free st.elements i left f, ← (type_unsaid variable d letter (λ e. z (m ∙ e))))
        go false f = rw (types_pass letter variable free st.elements i left f)

    type_left : n ≡ 0 → flag_at free i ≡ true → types_left letter variable st free i ≡ 8 + types_left letter variable st free (i + 1)
    unfolding type_set_of
    type_left z f = rw (types_on letter variable free st.elements i left f, type_said variable d letter refl (sym m ∙ z), length-append, statement_long)

    -- It counts where the flag is set by which it goes: a TypeSet is as long as a member row of one variable.
    pub element_on : flag_at (pick (eqb n 0) free members) i ≡ true → elements_size letter variable st members free i
        ≡ length (field_bytes (statement_field letter (row_statement variable (member_row d)))) + elements_size letter variable st members free (i + 1)
    unfolding elements_size
    element_on f =
        let a = statement_long letter (row_statement variable (member_row d)) in
        let k = member_many variable d m in
        let g = go (ℕ_discrete n 0) in omega arith
      where
        go : Dec (n ≡ 0) → members_left st members i + types_left letter variable st free i
            ≡ (6 + 2 * (n + 1)) + (members_left st members (i + 1) + types_left letter variable st free (i + 1))
        go (yes z) = let a = no_member z in let t = type_left z (rw (eq-eqb _ _ z) at f) in omega arith
        go (no z) = let a = rw (rw (ne_eqb _ _ z) at f) at (member_left z) in let t = no_type z in omega arith

    pub element_pass : flag_at (pick (eqb n 0) free members) i ≡ false
        → elements_size letter variable st members free i ≡ elements_size letter variable st members free (i + 1)
    unfolding elements_size
    element_pass f = go (ℕ_discrete n 0)
      where
        go : Dec (n ≡ 0) → members_left st members i + types_left letter variable st free i
            ≡ members_left st members (i + 1) + types_left letter variable st free (i + 1)
        go (yes z) = rw (no_member z, types_pass letter variable free st.elements i left (rw (eq-eqb _ _ z) at f))
        go (no z) = let a = rw (rw (ne_eqb _ _ z) at f) at (member_left z) in let t = no_type z in omega arith

-- What a structure says, its parts counted one behind the other.
pub said_counted : (letter : ℕ) (side : Side) (masks : Masks) (from : ℕ) {p f r : ℕ}
    → p ≡ capped (from + length (statement_bytes letter (rows_said side Predicates masks.preds)))
    → f ≡ capped (p + length (statement_bytes letter (rows_said side Functions masks.funcs)))
    → r ≡ capped (f + (length (statement_bytes letter (members_said side masks.members))
    + length (statement_bytes letter (types_said side (flagged masks.free side.structure.elements)))))
    → r ≡ capped (from + length (statement_bytes letter (said_by side.structure side.variables masks)))
said_counted letter side masks from a b c = rw (said_parts, apps_parts letter side masks, length-append, length-append, length-append) (omega arith)

-- The Equalities of a variable with later ones: 10 bytes each.
later_long : (letter : ℕ) (types : List ℕ) (v : ℕ) (vs : List ℕ) → length (statement_bytes letter (each (equality_of types v) vs)) ≡ 10 * length vs
unfolding each equality_of
later_long letter types v [] = rw statements_none refl
later_long letter types v (x ∷ vs) =
    let a = statement_long letter (equality_of types v x) in
    let r = later_long letter types v vs in
    rw (statements_cons, length-append) (omega arith)

-- A number is at most its square.
pub square_most : (n : ℕ) → n ≤ n * n
square_most zero = omega arith
square_most (suc n) = rw (suc-mul n (suc n)) (omega arith)

-- Those of n variables: half of n * n - n, so 5 bytes for each of these.
pub among_long : (letter : ℕ) (types vs : List ℕ) → length (statement_bytes letter (equalities_among types vs)) ≡ 5 * (length vs * length vs - length vs)
unfolding equalities_among
among_long letter types [] = rw statements_none refl
among_long letter types (v ∷ vs) =
    let a = later_long letter types v vs in
    let b = among_long letter types vs in
    let m = square_most (length vs) in
    rw (statements_append, length-append, suc-mul (length vs) (suc (length vs)), mul-suc (length vs) (length vs)) (omega arith)
