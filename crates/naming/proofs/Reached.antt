-- What the row of a reached structure tells: its new variables, their types, and its images.
use Prim.Native.Nat.{ℕ, suc, ◌+◌, ◌≤◌, ◌<◌}
use native.Mathlib.Omega.{arith}
use mathlib.Core.List.{List, [], ◌∷◌, ◌++◌, append-nil}
use mathlib.Core.Option.{Option}
use mathlib.Core.Logic.{◌⊎◌, inl, inr}
use mathlib.Core.Path.{◌≡◌, sym, ◌∙◌, ap}
use lib.ListN.{length, get_or, set, length-append, length-set, get_or-append, get_or-eq_default}
use lib.Seq.{sets, append_snoc, get_or-append_seam, get_or-set_same, get_or-set_other}
use Rattle.definition.specs.Base.{each, given}
use Rattle.definition.specs.Group.{Variable}
use Rattle.definition.specs.Kinds.{type_in}
use Rattle.definition.specs.Names.{numbers_of, numbered, new_variables}
use Rattle.definition.specs.Rows.{in_image}
use Rattle.definition.specs.Rule.{Structure}
use Rattle.laws.proofs.Lists.{trichotomy}
use Rattle.rule.specs.MapFields.{KeysIn}
use Rattle.rows.specs.Kernel.{TypesOf}
use Rattle.rows.specs.Morphisms.{MorphismBy}
use Rattle.naming.specs.Variables.{row_of, variables_in, kept_in, new_in, GivenOut}
use Rattle.naming.specs.Maps.{taken_over}
use Rattle.naming.proofs.Whole.{TakenBelow, kept_row}
use Rattle.naming.proofs.Carrying.{length_carried, taken_below, given_images}
use Rattle.naming.proofs.News.{types_of}

-- A row that was numbered tells what was taken over (taken-below and length-carried for a map's target, nothing-below and
-- length-nothing for structure 0), and so which variables are new, and how many.
module _ (st : Structure) {next : ℕ} {taken : List (Option ℕ)} (t : TakenBelow next taken) (long : length taken ≡ length st.elements) where
  pub new_row : new_in st next (row_of (numbered next taken)) ≡ new_variables st next st.elements taken
  unfolding new_in
  new_row = rw (kept_row t long)

-- Those that were taken over are the images.
pub images_taken : {row : List ℕ} (m : MorphismBy) {next : ℕ} → KeysIn (numbers_of m.source) m.pairs → GivenOut m.source row next
    → each given (kept_in next (length m.target.elements) (row_of (numbered next (taken_over row m)))) ≡ each (in_image m.pairs) (numbers_of m.target)
images_taken {row} m keys g =
    let l = length_carried m.source m.target (variables_in m.source row) m.pairs in
    rw (kept_row (taken_below m keys g) l) (given_images m.source m.target (variables_in m.source row) m.pairs)

-- The table of types, with the types of the new variables behind those of the others.
abbrev no_variable : Variable
no_variable = record { type = 0; name = [] }

module _ {table : List Variable} {types : List ℕ} (t : TypesOf table types) (x : Variable) (fits : length table < length types) where
  one_more : TypesOf (table ++ (x ∷ [])) (set types (length table) x.type)
  unfolding type_in
  one_more = record { same = λ v h. go v (rw length-set at h) (trichotomy v (length table)) }
    where
      go : (v : ℕ) → v < length types → (v < length table) ⊎ ((v ≡ length table) ⊎ (length table < v))
          → get_or (set types (length table) x.type) v 0 ≡ (get_or (table ++ (x ∷ [])) v no_variable).type
      go v h (inl l) = get_or-set_other types (length table) v x.type 0 (λ e. omega arith) ∙ t.same v h ∙ rw (get_or-append table (x ∷ []) no_variable v l)
      go v h (inr (inl e)) = rw (e, get_or-set_same types (length table) x.type 0 fits, get_or-append_seam table x [] no_variable)
      go v h (inr (inr l)) =
          let a : get_or table v no_variable ≡ no_variable = get_or-eq_default table no_variable (omega arith) in
          let b : get_or (table ++ (x ∷ [])) v no_variable ≡ no_variable = get_or-eq_default (table ++ (x ∷ [])) no_variable (rw length-append (omega arith)) in
          get_or-set_other types (length table) v x.type 0 (λ e. omega arith) ∙ t.same v h ∙ ap (λ (y : Variable). y.type) (a ∙ sym b)

pub types_more : {table : List Variable} {types : List ℕ} → TypesOf table types → (news : List Variable) → length table + length news ≤ length types
    → TypesOf (table ++ news) (sets types (length table) (types_of news))
unfolding each
types_more {table} t [] h = rw append-nil t
types_more {table} {types} t (x ∷ news) h =
    let w = one_more t x (omega arith) in
    let n : length (table ++ (x ∷ [])) ≡ suc (length table) = length-append table (x ∷ []) ∙ omega arith in
    rw append_snoc at (rw n at (types_more w news (rw (n, length-set) (omega arith))))
