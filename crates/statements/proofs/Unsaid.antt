-- Where no flag is set nothing is said.
use Prim.Native.Nat.{ℕ, ◌+◌, ◌≤◌}
use mathlib.Core.Bool.{true}
use mathlib.Core.List.{List, [], ◌∷◌}
use mathlib.Core.Path.{◌≡◌, refl}
use Rattle.definition.specs.Base.{keep, each}
use Rattle.definition.specs.Group.{Statement}
use Rattle.definition.specs.Kinds.{Side}
use Rattle.definition.specs.Rows.{type_sets}
use Rattle.definition.specs.Rule.{Structure, Row, Element}
use Rattle.flags.specs.Flags.{none_set}
use Rattle.flags.specs.declared.Mask.{Mask}
use Rattle.flags.proofs.Words.{none_no_flag}
use Rattle.laws.specs.Bytes.{statement_bytes}
use Rattle.records.specs.Buffer.{Put, count_limit}
use Rattle.records.proofs.Tail.{nothing}
use Rattle.statements.specs.Said.{flagged_from, flagged, member_flag}
use Rattle.statements.specs.Parts.{rows_kinded, members_said, types_said}
use Rattle.statements.specs.declared.masks.SaidAs.{SaidAs}
use Rattle.statements.proofs.Bytes.{statements_none}

-- No statements: no bytes.
pub unsaid : {statements : List Statement} {from : ℕ} (out : List ℕ) (letter : ℕ) → statements ≡ [] → from ≤ count_limit
    → Put out out (statement_bytes letter statements) from from
unsaid {from = from} out letter e h = rw (e, statements_none letter) (nothing out from h)

flagged_none : {A : Type 0} (mask : Mask) → none_set mask ≡ true → (i : ℕ) (xs : List A) → flagged_from mask i xs ≡ []
unfolding flagged_from
flagged_none mask e i [] = refl
flagged_none mask e i (x ∷ xs) = rw (none_no_flag mask e i) (flagged_none mask e (i + 1) xs)

kept_none : (mask : Mask) → none_set mask ≡ true → (st : Structure) (rs : List Row) → keep (member_flag st mask) rs ≡ []
unfolding keep member_flag
kept_none mask e st [] = refl
kept_none mask e st (r ∷ rs) = rw (none_no_flag mask e _) (kept_none mask e st rs)

module _ (side : Side) (mask : Mask) (e : none_set mask ≡ true) where
  pub rows_none : (kinds : Row → ℕ) (said : SaidAs) → rows_kinded side kinds said mask ≡ []
  unfolding rows_kinded each
  rows_none kinds said = rw (flagged_none mask e 0)

  pub members_none : members_said side mask ≡ []
  unfolding each
  members_none = rw (kept_none mask e side.structure)

  pub types_none : (els : List Element) → types_said side (flagged mask els) ≡ []
  unfolding type_sets keep each
  types_none els = rw (flagged_none mask e 0 els)
