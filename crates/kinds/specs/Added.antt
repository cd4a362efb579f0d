-- What a map's target has beside the images of the source's rows.
use Rattle.std.specs.Prelude.{ℕ, ◌<◌, Bool, true, false, not, ◌&&◌, ◌||◌, List, ◌≡◌, length, get_or, Result, Ok, Err}
use Rattle.definition.specs.Base.{keep, any}
use Rattle.definition.specs.Rule.{Structure, Row, Pair}
use Rattle.records.specs.declared.refusal.Refusal.{Refusal}
use Rattle.records.specs.declared.refusal.Refusal.TheVariants as refusal
use Rattle.flags.specs.declared.Mask.{Mask}
use Rattle.flags.specs.Flags.{flag_at, no_flags}
use Rattle.rule.specs.Rows.{member_rows}
use Rattle.rule.specs.Views.{no_element}
use Rattle.rows.specs.Members.{new_member}
use Rattle.rows.specs.Table.{row_lacks, is_new}
use Rattle.statements.specs.Said.{flagged}
use Rattle.statements.specs.declared.masks.Masks.{Masks}

-- The new rows of a section, or 26 where an element of a row of the source has no image.
abbrev NewRowsAs : Result Mask Refusal → List Pair → List Row → List Row → Type 0
NewRowsAs (Err r) pairs sources targets = (r ≡ refusal.UnmappedElement) × (any (row_lacks pairs) sources ≡ true)
NewRowsAs (Ok mask) pairs sources targets = (any (row_lacks pairs) sources ≡ false) × (flagged mask targets ≡ keep (is_new pairs sources) targets)

pub record NewRows (r : Result Mask Refusal) (pairs : List Pair) (sources targets : List Row) : Type 0 where
  pub is : NewRowsAs r pairs sources targets

-- The elements that have a new member row, but for the marked ones.
abbrev pub Unmarked : Mask → Structure → List Pair → List Row → List Bool → Type 0
Unmarked mask target pairs sources marks = (i : ℕ) → i < length target.elements
    → flag_at mask i ≡ (new_member pairs sources (get_or target.elements i no_element) && not (get_or marks i false))

abbrev NewMembersAs : Result Mask Refusal → Structure → Structure → List Pair → List Bool → Type 0
NewMembersAs (Err r) source target pairs marks = (r ≡ refusal.UnmappedElement) × (any (row_lacks pairs) (member_rows source.elements) ≡ true)
NewMembersAs (Ok mask) source target pairs marks =
    (any (row_lacks pairs) (member_rows source.elements) ≡ false) × Unmarked mask target pairs (member_rows source.elements) marks

pub record NewMembers (r : Result Mask Refusal) (source target : Structure) (pairs : List Pair) (marks : List Bool) : Type 0 where
  pub is : NewMembersAs r source target pairs marks

-- The three sorts together: whether an element of a row of the source has no image,
unfoldable pub source_lacks : Structure → List Pair → Bool
source_lacks source pairs =
    any (row_lacks pairs) source.pred_rows || any (row_lacks pairs) source.func_rows || any (row_lacks pairs) (member_rows source.elements)

-- and the flags of the target's new ones.
pub record RowMasks (masks : Masks) (source target : Structure) (pairs : List Pair) (marks : List Bool) : Type 0 where
  pub preds : flagged masks.preds target.pred_rows ≡ keep (is_new pairs source.pred_rows) target.pred_rows
  pub funcs : flagged masks.funcs target.func_rows ≡ keep (is_new pairs source.func_rows) target.func_rows
  pub members : Unmarked masks.members target pairs (member_rows source.elements) marks
  pub free : masks.free ≡ no_flags

abbrev AddsRowsAs : Result Masks Refusal → Structure → Structure → List Pair → List Bool → Type 0
AddsRowsAs (Err r) source target pairs marks = (r ≡ refusal.UnmappedElement) × (source_lacks source pairs ≡ true)
AddsRowsAs (Ok masks) source target pairs marks = (source_lacks source pairs ≡ false) × RowMasks masks source target pairs marks

pub record AddsRows (r : Result Masks Refusal) (source target : Structure) (pairs : List Pair) (marks : List Bool) : Type 0 where
  pub is : AddsRowsAs r source target pairs marks
