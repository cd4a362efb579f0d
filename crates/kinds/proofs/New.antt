-- The new rows of a section, the new members, and the three sorts together.
use Prim.Native.Nat.{ℕ, ◌≤◌}
use native.Mathlib.Omega.{arith}
use mathlib.Core.Bool.{Bool, false, not, ◌&&◌}
use mathlib.Core.List.{List, []}
use mathlib.Core.Path.{◌≡◌, refl, ◌∙◌, ap}
use lib.ListN.{length, get_or, take}
use Rattle.definition.specs.Base.{keep, each, any}
use Rattle.definition.specs.Limits.{field_limit}
use Rattle.definition.specs.Rule.{Structure, Row, Pair}
use Rattle.laws.proofs.Lists.{length_each}
use Rattle.records.proofs.Parts.{keep_few}
use Rattle.records.specs.declared.refusal.Refusal.{Refusal}
use Rattle.flags.specs.declared.Mask.{Mask}
use Rattle.flags.specs.Flags.{no_flags, Packed, PackedLess}
use Rattle.flags.proofs.Words.{no_flag}
use Rattle.rule.specs.Rows.{has_parents, member_rows, Alike}
use Rattle.rule.specs.Views.{WellFormed, no_element}
use Rattle.rows.specs.Links.{BothAlike}
use Rattle.rows.specs.Members.{new_member}
use Rattle.rows.specs.Table.{Short, is_new, Imaged, Holds}
use Rattle.rows.specs.declared.table.Images.{Images}
use Rattle.rows.proofs.Kept.{flag_at_lem}
use Rattle.rows.proofs.TableLaws.{holds_of}
use Rattle.rows.proofs.MemberLaws.{no_member_rows, no_new_member}
use Rattle.kinds.specs.Added.{NewRows, NewMembers, source_lacks, AddsRows}
use Rattle.kinds.proofs.Masks.{packed_keep, none_flagged}
use Rattle.std.specs.Prelude.{Result, Ok, Err}

-- The rows of a section.
module _ {pairs : List Pair} {sources targets : List Row} where
  pub rows_new : {kind : ℕ} {columns : ℕ → ℕ} {images : Images} {mask : Mask} → Imaged (Ok tt) pairs sources images → Alike kind columns sources
      → (Holds kind columns pairs sources images → Packed mask (each (is_new pairs sources) targets) (length targets))
      → NewRows (Ok mask) pairs sources targets
  rows_new {mask = mask} i a h =
      record { is = (i.is.0, packed_keep mask (is_new pairs sources) targets (h (holds_of i a))) }

  pub rows_lack : {images : Images} {r : Refusal} → Imaged (Err r) pairs sources images → NewRows (Err r) pairs sources targets
  rows_lack i = record { is = i.is }

  -- Without rows on either side there is nothing new.
  pub no_rows : sources ≡ [] → targets ≡ [] → NewRows (Ok no_flags) pairs sources targets
  unfolding any keep
  no_rows a b = rw (a, b) (record { is = (refl, none_flagged {A = Row} []) })

-- Members.
module _ (source target : Structure) (pairs : List Pair) (marks : List Bool) where
  abbrev olds : List Row
  olds = member_rows source.elements

  pub members_new : {images : Images} {mask : Mask} {flags : List Bool} {n : ℕ} → Imaged (Ok tt) pairs olds images → n ≡ length target.elements
      → take (length target.elements) flags ≡ each (new_member pairs olds) target.elements → PackedLess mask flags marks n
      → NewMembers (Ok mask) source target pairs marks
  members_new {flags = flags} i n f p =
      record {
        is = (
          i.is.0,
          λ j h. p.flags.same j (rw n h)
              ∙ ap (λ (b : Bool). b && not (get_or marks j false)) (flag_at_lem (new_member pairs olds) target.elements flags f j no_element h),
        );
      }

  pub members_lack : {images : Images} {r : Refusal} → Imaged (Err r) pairs olds images → NewMembers (Err r) source target pairs marks
  members_lack i = record { is = i.is }

  -- Without member rows on either side there is nothing new.
  pub no_members : any has_parents source.elements ≡ false → any has_parents target.elements ≡ false → NewMembers (Ok no_flags) source target pairs marks
  unfolding any
  no_members a b =
      record { is = (rw (no_member_rows source.elements a), λ i l. no_flag i ∙ rw (no_new_member target.elements b pairs olds i l)) }

  -- The three together.
  abbrev Preds : Result Mask Refusal → Type 0
  Preds r = NewRows r pairs source.pred_rows target.pred_rows

  abbrev Funcs : Result Mask Refusal → Type 0
  Funcs r = NewRows r pairs source.func_rows target.func_rows

  pub adds_preds : {r : Refusal} → Preds (Err r) → AddsRows (Err r) source target pairs marks
  unfolding source_lacks
  adds_preds p = record { is = (p.is.0, rw p.is.1) }

  pub adds_funcs : {a : Mask} {r : Refusal} → Preds (Ok a) → Funcs (Err r) → AddsRows (Err r) source target pairs marks
  unfolding source_lacks
  adds_funcs p f = record { is = (f.is.0, rw (p.is.0, f.is.1)) }

  pub adds_members : {a b : Mask} {r : Refusal} → Preds (Ok a) → Funcs (Ok b) → NewMembers (Err r) source target pairs marks
      → AddsRows (Err r) source target pairs marks
  unfolding source_lacks
  adds_members p f e = record { is = (e.is.0, rw (p.is.0, f.is.0, e.is.1)) }

  pub adds_all : {a b d : Mask} → Preds (Ok a) → Funcs (Ok b) → NewMembers (Ok d) source target pairs marks
      → AddsRows (Ok (record { preds = a; funcs = b; members = d; free = no_flags })) source target pairs marks
  unfolding source_lacks
  adds_all p f e = record { is = (rw (p.is.0, f.is.0, e.is.0), record { preds = p.is.1; funcs = f.is.1; members = e.is.1; free = refl }) }

-- The rows of a structure by itself are few and short.
module _ {st : Structure} (w : WellFormed st) where
  pub preds_short : Short st.pred_rows
  preds_short = record { few = w.preds_few; short = λ r m. (w.preds_formed r m).1 }

  pub funcs_short : Short st.func_rows
  funcs_short = record { few = w.funcs_few; short = λ r m. (w.funcs_formed r m).1 }

  pub members_few : length (member_rows st.elements) ≤ field_limit
  unfolding member_rows
  members_few = let k = keep_few has_parents st.elements in let few = w.elements_few in rw length_each (omega arith)

-- The R rows and the A rows of two structures that are alike.
module _ {source target : Structure} (w : BothAlike source target) {r : Result Mask Refusal} {pairs : List Pair} where
  pub preds_new : ((kind : ℕ) (columns : ℕ → ℕ) → Alike kind columns source.pred_rows → Alike kind columns target.pred_rows
      → NewRows r pairs source.pred_rows target.pred_rows)
      → NewRows r pairs source.pred_rows target.pred_rows
  preds_new h = h _ _ w.source_preds w.target_preds

  pub funcs_new : ((kind : ℕ) (columns : ℕ → ℕ) → Alike kind columns source.func_rows → Alike kind columns target.func_rows
      → NewRows r pairs source.func_rows target.func_rows)
      → NewRows r pairs source.func_rows target.func_rows
  funcs_new h = h _ _ w.source_funcs w.target_funcs
