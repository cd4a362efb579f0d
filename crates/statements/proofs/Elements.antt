-- Elements as statements: member rows, and TypeSets.
use Prim.Native.Nat.{ℕ, ◌+◌, ◌≤◌, ◌<◌}
use native.Mathlib.Omega.{arith}
use native.Mathlib.Numerals.{add-one}
use mathlib.Core.Bool.{Bool, true, false}
use mathlib.Core.List.{List, [], ◌∷◌, ◌++◌, append-nil}
use mathlib.Core.Logic.{⊎_elim}
use mathlib.Core.Path.{◌≡◌, refl, sym, ◌∙◌, ap}
use lib.Dec.{eqb}
use lib.ListN.{length, get_or, set, take, drop, length-append, drop_of_length-le}
use lib.Seq.{drop-cons}
use borrow.Author.Tests.{eq-eqb, ne_eqb}
use Rattle.definition.specs.Base.{cons_if, keep, each, empty, place_from, ◌∈◌}
use Rattle.definition.specs.Letters.{member, type_set}
use Rattle.definition.specs.Names.{numbers_of, variable_at}
use Rattle.definition.specs.Rows.{member_row, members, row_statement, type_sets}
use Rattle.definition.specs.Rule.{Structure, Element}
use Rattle.definition.specs.Writer.{statement_field, field_bytes}
use Rattle.flags.specs.Flags.{flag_at}
use Rattle.flags.specs.declared.Mask.{Mask}
use Rattle.laws.proofs.ByteForm.{statements_append}
use Rattle.laws.proofs.Lists.{each_append, length_each, get_d_each, mem_at, trichotomy}
use Rattle.laws.proofs.Numbering.{place_in}
use Rattle.laws.proofs.RowLaws.{member_last}
use Rattle.laws.specs.Bytes.{statement_bytes}
use Rattle.records.proofs.Parts.{store_more}
use Rattle.rows.proofs.Places.{numbers_many}
use Rattle.rows.specs.Members.{member_in, Below}
use Rattle.rule.proofs.Finding.{Ascending}
use Rattle.rule.specs.Views.{no_element}
use Rattle.statements.specs.Said.{flagged_from, member_flag}
use Rattle.statements.specs.Parts.{type_set_of}
use Rattle.statements.proofs.Bytes.{statements_cons, statements_none, flagged_on, flagged_pass, flagged_end}

-- The element at a place of an accepted structure.
module _ (st : Structure) (up : Ascending (numbers_of st)) {i : ℕ} (h : i < length st.elements) where
  abbrev own : Element
  own = get_or st.elements i no_element

  number_is : get_or (numbers_of st) i 0 ≡ own.number
  unfolding numbers_of
  number_is = get_d_each (λ (e : Element). e.number) st.elements i no_element 0 h

  -- Its number stands at its place alone.
  place_own : place_from 0 own.number (numbers_of st) ≡ i
  place_own =
      let n = numbers_many st in
      let m : own.number ∈ numbers_of st = rw (← number_is) (mem_at (numbers_of st) i 0 (omega arith)) in
      let p = place_in own.number (numbers_of st) m in
      let at : ℕ = place_from 0 own.number (numbers_of st) in
      ⊎_elim (λ (a : at < i). let u = up at i a (omega arith) in absurd (omega (arith, p.1, number_is)))
      (⊎_elim (λ (a : at ≡ i). a) (λ (a : i < at). let u = up i at a p.0 in absurd (omega (arith, p.1, number_is)))) (trichotomy at i)

  pub own_variable : (vars : List ℕ) → get_or vars i 0 ≡ variable_at st vars own.number
  unfolding variable_at
  own_variable vars = rw place_own

  pub own_flag : (mask : Mask) → member_flag st mask (member_in st i) ≡ flag_at mask i
  unfolding member_flag member_in
  own_flag mask = rw (member_last own, place_own)

  pub elements_left : drop i st.elements ≡ own ∷ drop (i + 1) st.elements
  elements_left = rw (add-one, drop-cons st.elements i no_element)

-- The number of parents tells whether there are any.
pub empty_is : (ps : List ℕ) → empty ps ≡ eqb (length ps) 0
empty_is [] = refl
empty_is (p ∷ ps) = sym (ne_eqb (length (p ∷ ps)) 0 (λ e. omega arith))

-- What is said of one element: its member row, and its TypeSet, if it has no parents.
module _ (variable : ℕ → ℕ) (d : Element) where
  pub member_many : {n : ℕ} → n ≡ length d.parents → length (row_statement variable (member_row d)).variables ≡ n + 1
  unfolding row_statement member_row
  member_many q = rw (length_each, length-append, q)

  pub member_said : {v : ℕ} (vars : List ℕ) (n : ℕ) → v ≡ variable d.number → n < length vars → take n vars ≡ each variable d.parents
      → record { kind = member; symbol = d.type; variables = take (n + 1) (set vars n v) } ≡ row_statement variable (member_row d)
  unfolding row_statement member_row each
  member_said {v} vars n q few t = rw (store_more vars n v few, t, q, each_append)

  module _ (letter : ℕ) where
    pub type_said : {v : ℕ} → v ≡ variable d.number → length d.parents ≡ 0
        → statement_bytes letter (type_sets variable (d ∷ [])) ≡ field_bytes (statement_field letter (type_set_of d.type v))
    unfolding type_sets keep each type_set_of
    type_said q z = rw (q, empty_is d.parents, eq-eqb _ _ z) (rw (statements_cons, statements_none, append-nil) refl)

    pub type_unsaid : (length d.parents ≡ 0 → ⊥) → [] ≡ statement_bytes letter (type_sets variable (d ∷ []))
    unfolding type_sets keep each
    type_unsaid z = rw (empty_is d.parents, ne_eqb _ _ z) (sym (statements_none letter))

-- The same of one that was read from its place.
module _ (st : Structure) (up : Ascending (numbers_of st)) {i : ℕ} (h : i < length st.elements) {d : Element} (q : d ≡ get_or st.elements i no_element)
    (vars : List ℕ) where
  given_variable : get_or vars i 0 ≡ variable_at st vars d.number
  given_variable = rw q (own_variable st up h vars)

  pub member_given : (others : List ℕ) (n : ℕ) → n < length others → take n others ≡ each (variable_at st vars) d.parents
      → record { kind = member; symbol = d.type; variables = take (n + 1) (set others n (get_or vars i 0)) }
      ≡ row_statement (variable_at st vars) (member_in st i)
  unfolding member_in
  member_given others n few t = rw (← q) (member_said (variable_at st vars) d others n given_variable few t)

  module _ (letter : ℕ) where
    pub type_given : length d.parents ≡ 0
        → statement_bytes letter (type_sets (variable_at st vars) (get_or st.elements i no_element ∷ []))
        ≡ field_bytes (statement_field letter (type_set_of d.type (get_or vars i 0)))
    type_given z = rw (← q) (type_said (variable_at st vars) d letter given_variable z)

    pub type_ungiven : (length d.parents ≡ 0 → ⊥)
        → [] ≡ statement_bytes letter (type_sets (variable_at st vars) (get_or st.elements i no_element ∷ []))
    type_ungiven z = rw (← q) (type_unsaid (variable_at st vars) d letter z)

-- The TypeSets of the flagged elements, from a place on.
unfoldable pub types_from : ℕ → (ℕ → ℕ) → Mask → List Element → ℕ → List ℕ
types_from letter variable mask els i = statement_bytes letter (type_sets variable (flagged_from mask i (drop i els)))

types_cons : (variable : ℕ → ℕ) (e : Element) (es : List Element) → type_sets variable (e ∷ es) ≡ type_sets variable (e ∷ []) ++ type_sets variable es
unfolding type_sets keep each
types_cons variable e es = go (empty e.parents)
  where
    go : (b : Bool) → each (λ (x : Element). record { kind = type_set; symbol = x.type; variables = variable x.number ∷ [] })
        (cons_if b e (keep (λ (x : Element). empty x.parents) es))
        ≡ each (λ (x : Element). record { kind = type_set; symbol = x.type; variables = variable x.number ∷ [] }) (cons_if b e []) ++ type_sets variable es
    go true = refl
    go false = refl

module _ (letter : ℕ) (variable : ℕ → ℕ) (mask : Mask) (els : List Element) (i : ℕ) where
  module _ {d : Element} (e : drop i els ≡ d ∷ drop (i + 1) els) where
    pub types_on : flag_at mask i ≡ true
        → types_from letter variable mask els i ≡ statement_bytes letter (type_sets variable (d ∷ [])) ++ types_from letter variable mask els (i + 1)
    unfolding types_from
    types_on f = rw (flagged_on e mask i f, types_cons _ d, statements_append)

    pub types_pass : flag_at mask i ≡ false → types_from letter variable mask els i ≡ types_from letter variable mask els (i + 1)
    unfolding types_from
    types_pass f = rw (flagged_pass e mask i f)

  pub types_end : length els ≤ i → types_from letter variable mask els i ≡ []
  unfolding types_from type_sets keep each
  types_end h = rw (flagged_end mask i (drop_of_length-le els h)) (statements_none letter)

-- The flagged member rows, from a place of their order on.
unfoldable pub members_from : ℕ → Structure → (ℕ → ℕ) → Mask → ℕ → List ℕ
members_from letter st variable mask n = statement_bytes letter (each (row_statement variable) (keep (member_flag st mask) (drop n (members st))))

-- The places of the member rows' elements, in the rows' order; the n-th of them.
pub order_below : {count : ℕ} {order : List ℕ} → Below count order → {n i : ℕ} → n < length order → i ≡ get_or order n 0 → i < count
order_below below {n} h q = rw q (below.each_below _ (mem_at _ n 0 h))

module _ (st : Structure) (up : Ascending (numbers_of st)) (letter : ℕ) (variable : ℕ → ℕ) (mask : Mask) (order : List ℕ)
    (sorted : each (member_in st) order ≡ members st) where
  many : length (members st) ≡ length order
  many = ap length (sym sorted) ∙ length_each (member_in st) order

  pub members_end : {n : ℕ} → length order ≤ n → members_from letter st variable mask n ≡ []
  unfolding members_from keep each
  members_end {n} h = let z = many in rw (drop_of_length-le (members st) {i = n} (omega arith)) (statements_none letter)

  module _ (below : Below (length st.elements) order) {n : ℕ} (h : n < length order) {i : ℕ} (q : i ≡ get_or order n 0) where
    left : drop n (members st) ≡ member_in st i ∷ drop (n + 1) (members st)
    left =
        let g : get_or (members st) n (member_in st 0) ≡ member_in st i
        = rw (← sorted, q) (get_d_each (member_in st) order n 0 (member_in st 0) h) in
        let m = many in
        rw (add-one, ← g) (drop-cons (members st) n (member_in st 0) (omega arith))

    pub members_on : flag_at mask i ≡ true → members_from letter st variable mask n
        ≡ field_bytes (statement_field letter (row_statement variable (member_in st i))) ++ members_from letter st variable mask (n + 1)
    unfolding members_from keep each
    members_on f = rw (left, own_flag st up (order_below below h q) mask, f) (statements_cons letter _ _)

    pub members_pass : flag_at mask i ≡ false → members_from letter st variable mask n ≡ members_from letter st variable mask (n + 1)
    unfolding members_from keep
    members_pass f = rw (left, own_flag st up (order_below below h q) mask, f)
