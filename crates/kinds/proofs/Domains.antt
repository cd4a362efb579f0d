-- NonSurjThen: what the new elements and the row that yields the only one lead to.
use Prim.Native.Nat.{ℕ, ◌<◌}
use mathlib.Core.Bool.{Bool, true, false}
use mathlib.Core.List.{List, [], ◌∷◌}
use mathlib.Core.Path.{◌≡◌, refl, ◌∙◌}
use native.Mathlib.Omega.{arith}
use lib.ListN.{length, get_or, take}
use Rattle.definition.specs.Base.{keep, each, all, but_last, place_from, ◌∈◌}
use Rattle.definition.specs.Group.{Variable}
use Rattle.definition.specs.Kinds.{new_elements, yielding_row, domain_statement}
use Rattle.definition.specs.Names.{numbers_of}
use Rattle.definition.specs.Rule.{Structure, Row}
use Rattle.definition.specs.Rows.{members, last_element, type_sets, in_image}
use Rattle.laws.proofs.Lists.{mem_at}
use Rattle.laws.proofs.RowLaws.{but_last_mem}
use Rattle.laws.specs.Steps.{row_fault, new_fault, step_fault, row_for, own, conclusions}
use Rattle.records.specs.declared.refusal.Refusal.TheVariants.{NewElements, NotYielded, UnmappedArgument}
use Rattle.flags.specs.Flags.{places, no_flags, only_flag}
use Rattle.flags.proofs.Words.{no_flag, no_flags_none, one_some}
use Rattle.rule.specs.Els.{els_in}
use Rattle.rule.specs.Row.{row_from}
use Rattle.rule.specs.Structures.{structure_in, Stands}
use Rattle.rule.specs.Views.{WellFormed, listed_numbers}
use Rattle.rows.specs.Table.{no_row}
use Rattle.rows.proofs.Places.{numbers_many}
use Rattle.statements.specs.Said.{flagged, member_flag, said_by, domains_by}
use Rattle.kinds.specs.Elements.{Two, News}
use Rattle.kinds.specs.Steps.{StepBy, NonSurjDoes}
use Rattle.kinds.specs.Yielding.{Yields}
use Rattle.kinds.specs.declared.elements.New.{New}
use Rattle.kinds.specs.declared.elements.New.TheVariants as new
use Rattle.kinds.specs.declared.yielding.Yielding.{Yielding}
use Rattle.kinds.proofs.Masks.{none_flagged, one_flagged}
use Rattle.std.specs.Prelude.{Some, None, Ok, Err}

-- No member has a flag in nothing.
no_members : {A : Type 0} (p : A → Bool) (xs : List A) → ((a : A) → p a ≡ false) → keep p xs ≡ []
unfolding keep
no_members p [] h = refl
no_members p (x ∷ xs) h = rw (h x, no_members p xs h)

-- A new element that was found has a place.
pub new_below : (st : Structure) {p : ℕ → Bool} {i : ℕ} → News (new.One i) p (numbers_of st) → i < length st.elements
new_below st w = let n = numbers_many st in let l = w.is.0 in omega arith

-- The elements of A rows are elements of their structure.
pub record FuncsNamed (st : Structure) : Type 0 where
  pub named : (r : Row) → r ∈ st.func_rows → (e : ℕ) → e ∈ r.elements → e ∈ numbers_of st

-- They are, by where it stands.
pub funcs_named : {st : Structure} {s index : List ℕ} {k : ℕ} → Stands s index k → structure_in s k ≡ st → FuncsNamed st
funcs_named w e = rw (← e) (record { named = λ r m. (w.at.sound.funcs_sound r m).2.elements_in })

module _ (x : StepBy) where
  abbrev fresh : List ℕ
  fresh = new_elements x.target x.pairs

  abbrev rows : List Row
  rows = x.target.structure.func_rows

  no_flags_lem : keep (member_flag x.target.structure no_flags) (members x.target.structure) ≡ []
  unfolding member_flag
  no_flags_lem = no_members (member_flag x.target.structure no_flags) (members x.target.structure)
      (λ r. no_flag (place_from 0 (last_element r) (numbers_of x.target.structure)))

  -- By what the search for new elements told.
  abbrev NewsOf : New → Type 0
  NewsOf n = News n (in_image x.pairs) (numbers_of x.target.structure)

  none_new : NewsOf new.Nothing → fresh ≡ []
  unfolding new_elements
  none_new w = w.is

  pub one_new : {i : ℕ} → NewsOf (new.One i) → fresh ≡ get_or (numbers_of x.target.structure) i 0 ∷ []
  unfolding new_elements
  one_new w = w.is.1

  two_new : NewsOf new.More → Two fresh
  unfolding new_elements
  two_new w = w.is

  -- The row that was found is one of the target's: its place is one of a mask, and its arguments are elements, so they are asked for images.
  module _ {y : Yielding} {e : ℕ} (q : Yields (Some y) e rows) where
    pub found_few : WellFormed x.target.structure → y.place < places
    found_few w = let few = w.funcs_few in let l = q.is.0 in omega arith

    arguments_named : FuncsNamed x.target.structure → (d : ℕ) → d ∈ but_last (els_in y.row.els) → d ∈ numbers_of x.target.structure
    arguments_named w d m =
        let r : row_from y.row ∈ rows = rw q.is.1 at (mem_at rows y.place no_row q.is.0) in
        w.named _ r d (but_last_mem (els_in y.row.els) m)

    pub all_images : {arguments : List ℕ} (images : List Bool) {r : Bool} → FuncsNamed x.target.structure → arguments ≡ but_last (els_in y.row.els)
        → take (length x.target.structure.elements) images ≡ each (in_image x.pairs) (numbers_of x.target.structure)
        → ((p : ℕ → Bool) → take (length x.target.structure.elements) images ≡ each p (listed_numbers x.target.structure.elements)
        → ((d : ℕ) → d ∈ arguments → d ∈ listed_numbers x.target.structure.elements) → r ≡ all p arguments)
        → r ≡ all (in_image x.pairs) (but_last (els_in y.row.els))
    unfolding numbers_of
    all_images images w a i h = (rw a at h) (in_image x.pairs) i (arguments_named w)

  -- What that leads to.
  module _ (table : List Variable) where
    pub nothing_new : NewsOf new.Nothing
        → NonSurjDoes x table (Ok (record { preds = no_flags; funcs = no_flags; members = no_flags; free = no_flags }))
    unfolding step_fault new_fault own conclusions row_for said_by type_sets keep each
    nothing_new q =
        let e = none_new q in
        let st = x.target.structure in
        record {
          is = (
            rw e,
            (rw (e, none_flagged st.pred_rows, none_flagged st.func_rows, none_flagged st.elements, no_flags_lem), rw (e, no_flags_none)),
          );
        }

    pub more_new : NewsOf new.More → NonSurjDoes x table (Err NewElements)
    unfolding step_fault new_fault
    more_new q = record { is = rw (two_new q).same }

    module _ {e : ℕ} (one : fresh ≡ e ∷ []) where
      pub no_row_lem : Yields None e rows → NonSurjDoes x table (Err NotYielded)
      unfolding step_fault new_fault row_fault yielding_row
      no_row_lem q = record { is = rw (one, q.is) }

      module _ {y : Yielding} (q : Yields (Some y) e rows) {r : Bool} (t : r ≡ all (in_image x.pairs) (but_last (els_in y.row.els))) where
        pub outside : r ≡ false → NonSurjDoes x table (Err UnmappedArgument)
        unfolding step_fault new_fault row_fault yielding_row
        outside b = record { is = rw (one, q.is.2, ← t, b) }

        pub yielded : y.place < places → r ≡ true
            → NonSurjDoes x table (Ok (record { preds = no_flags; funcs = only_flag y.place; members = no_flags; free = no_flags }))
        unfolding step_fault new_fault row_fault own conclusions row_for yielding_row domain_statement said_by domains_by type_sets keep each
        yielded few b =
            let st = x.target.structure in
            let only : flagged (only_flag y.place) rows ≡ row_from y.row ∷ [] = one_flagged no_row y.place few rows q.is.0 ∙ rw q.is.1 in
            record {
              is = (
                rw (one, q.is.2, ← t, b),
                (
                  rw (one, q.is.2, none_flagged st.pred_rows, only, none_flagged st.elements, no_flags_lem),
                  rw (one, q.is.2, one_some y.place few, only),
                ),
              );
            }
