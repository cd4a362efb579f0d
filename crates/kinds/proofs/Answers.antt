-- What the steps answer that ask for images.
use Prim.Native.Nat.{ℕ, ◌<◌}
use native.Mathlib.Omega.{arith}
use mathlib.Core.Bool.{Bool, true, false, not, ◌&&◌}
use mathlib.Core.List.{List, [], ◌∷◌, ◌++◌, append-nil, append_assoc}
use mathlib.Core.Option.{some}
use mathlib.Core.Logic.{◌⊎◌, inl, inr}
use mathlib.Core.Path.{◌≡◌, sym, ◌∙◌}
use lib.ListN.{length, get_or, take}
use Rattle.definition.specs.Base.{keep, each, lowest, empty}
use Rattle.definition.specs.Group.{Variable}
use Rattle.definition.specs.Kinds.{kernel_clashes, row_unmapped, new_elements, free_elements, equalities, if_statements, surj_conclusion}
use Rattle.definition.specs.Names.{numbers_of}
use Rattle.definition.specs.Rule.{Structure, Element, Row, If, Noop}
use Rattle.definition.specs.Rows.{type_sets, in_image, constrained}
use Rattle.laws.proofs.Lists.{lowest_none, get_d_each}
use Rattle.laws.specs.Steps.{step_fault}
use Rattle.records.specs.declared.refusal.Refusal.{Refusal}
use Rattle.records.specs.declared.refusal.Refusal.TheVariants.{KernelTypesDiffer, NewElement}
use Rattle.flags.specs.declared.Mask.{Mask}
use Rattle.rule.specs.Rows.{member_rows}
use Rattle.rule.specs.Views.{WellFormed, no_element}
use Rattle.rows.proofs.Places.{numbers_many}
use Rattle.rows.proofs.Whole.{KindsOf, unmapped_parts, added_parts, free_parts}
use Rattle.statements.specs.Said.{flagged, said_by}
use Rattle.statements.specs.declared.masks.Masks.{Masks}
use Rattle.kinds.specs.Added.{source_lacks, AddsRows}
use Rattle.kinds.specs.Elements.{FreeOf, News}
use Rattle.kinds.specs.Steps.{StepBy, by, MasksFor, IfDoes, SurjDoes}
use Rattle.kinds.specs.declared.elements.New.{New}
use Rattle.kinds.specs.declared.elements.New.TheVariants as new
use Rattle.kinds.proofs.Masks.{flagged_keep, none_flagged}
use Rattle.kinds.proofs.Flagging.{members_all, members_free}
use Rattle.std.specs.Prelude.{Result, Ok, Err}

-- The rows of a structure by itself are of their kinds.
kinds_formed : {st : Structure} → WellFormed st → KindsOf st
kinds_formed w = record { preds = λ r m. (w.preds_formed r m).0; funcs = λ r m. (w.funcs_formed r m).0 }

-- Elements without two properties, by their flags.
free_flagged : (st : Structure) (mask : Mask) (p q : ℕ → Bool) → FreeOf mask p q (numbers_of st)
    → flagged mask st.elements ≡ keep (λ (e : Element). not (p e.number) && not (q e.number)) st.elements
unfolding numbers_of
free_flagged st mask p q w = flagged_keep mask (λ (e : Element). not (p e.number) && not (q e.number)) st.elements (λ j h.
    let n = numbers_many st in
    w.at j (omega arith) ∙ rw (get_d_each (λ (e : Element). e.number) st.elements j no_element 0 h)
    (sym (get_d_each (λ (e : Element). not (p e.number) && not (q e.number)) st.elements j no_element false h)))

module _ (x : StepBy) (table : List Variable) where
  abbrev clash : Bool
  clash = by x table kernel_clashes

  abbrev fresh : List ℕ
  fresh = new_elements x.target x.pairs

  -- 25 and 26.
  module _ {marks : List Bool} where
    pub masks_clash : clash ≡ true → MasksFor x table marks (Err KernelTypesDiffer)
    unfolding lowest
    masks_clash e = record { is = rw e }

    pub masks_added : (r : Result Masks Refusal) → clash ≡ false → AddsRows r x.source.structure x.target.structure x.pairs marks
        → MasksFor x table marks r
    unfolding lowest source_lacks
    masks_added (Err n) e a = record { is = rw (e, unmapped_parts x.sig table x.source x.target x.pairs, a.is.1, a.is.0) }
    masks_added (Ok masks) e a = record { is = (rw (e, unmapped_parts x.sig table x.source x.target x.pairs, a.is.0), a.is.1) }

  -- SurjThen.
  later : {n : ℕ} (a b d : Bool) → lowest ((25, a) ∷ (26, b) ∷ []) ≡ some n → lowest ((25, a) ∷ (26, b) ∷ (27, d) ∷ []) ≡ some n
  unfolding lowest
  later true b d e = e
  later false true d e = e
  later false false d e = let z : ◌≡◌ {A = ℕ} 0 1 = cc in absurd (omega arith)

  pub surj_refused : {marks : List Bool} {r : Refusal} → MasksFor x table marks (Err r) → SurjDoes x table (Err r)
  unfolding step_fault
  surj_refused a = record { is = later _ _ _ a.is }

  -- What the search for new elements told.
  abbrev NewsOf : New → Type 0
  NewsOf n = News n (in_image x.pairs) (numbers_of x.target.structure)

  module _ {marks : List Bool} {masks : Masks} (a : MasksFor x table marks (Ok masks)) where
    asked : (clash ≡ false) × (row_unmapped x.source x.pairs ≡ false)
    asked = let y = lowest_none 25 _ _ a.is.0 in (y.0, (lowest_none 26 _ _ y.1).0)

    surj_new : not (empty fresh) ≡ true → SurjDoes x table (Err NewElement)
    unfolding step_fault lowest
    surj_new q = record { is = rw (asked.0, asked.1, q) }

    pub surj_news : {n : New} → NewsOf n → ((i : ℕ) × (n ≡ new.One i)) ⊎ (n ≡ new.More) → SurjDoes x table (Err NewElement)
    unfolding new_elements
    surj_news f (inl (i, e)) = let v = rw e at f in surj_new (rw v.is.1)
    surj_news f (inr e) = let v = rw e at f in surj_new (rw v.is.same)

    module _ (from_formed : WellFormed x.source.structure) (to_formed : WellFormed x.target.structure) where
      abbrev olds : List Row
      olds = member_rows x.source.structure.elements

      pub surj_adds : NewsOf new.Nothing → ((i : ℕ) → i < length x.target.structure.elements → get_or marks i false ≡ false)
          → SurjDoes x table (Ok masks)
      unfolding step_fault lowest new_elements surj_conclusion said_by type_sets keep each
      surj_adds v bare =
          let y = a.is.1 in
          let parts = added_parts x.sig table x.source x.target x.pairs (kinds_formed from_formed) (kinds_formed to_formed) in
          let mem = members_all to_formed masks.members x.pairs olds marks y.members bare in
          record {
            is = (
              rw (asked.0, asked.1, v.is),
              rw (parts, y.preds, y.funcs, mem, y.free, none_flagged x.target.structure.elements, append-nil),
            );
          }

      -- If and Noop.
      module _ {free : Mask} (c : take (length x.target.structure.elements) marks ≡ each (constrained x.sig x.target.structure) (numbers_of x.target.structure))
          (f : FreeOf free (in_image x.pairs) (constrained x.sig x.target.structure) (numbers_of x.target.structure)) where
        abbrev all_masks : Masks
        all_masks = record { preds = masks.preds; funcs = masks.funcs; members = masks.members; free = free }

        if_said : by x table (if_statements x.sig) ≡ by x table equalities ++ said_by x.target.structure x.target.variables all_masks
        unfolding if_statements said_by free_elements
        if_said =
            let y = a.is.1 in
            let parts = free_parts x.sig table x.source x.target x.pairs (kinds_formed from_formed) (kinds_formed to_formed) in
            let mem = members_free to_formed masks.members x.pairs olds marks y.members x.sig c in
            let els = free_flagged x.target.structure free (in_image x.pairs) (constrained x.sig x.target.structure) f in
            rw (parts, y.preds, y.funcs, mem, els, append_assoc)

        pub if_adds : IfDoes x table If (Ok all_masks) × IfDoes x table Noop (Ok all_masks)
        unfolding step_fault
        if_adds = (record { is = (a.is.0, if_said) }, record { is = (a.is.0, if_said) })

  pub if_refused : {marks : List Bool} {r : Refusal} → MasksFor x table marks (Err r) → IfDoes x table If (Err r) × IfDoes x table Noop (Err r)
  unfolding step_fault
  if_refused a = (record { is = a.is }, record { is = a.is })
