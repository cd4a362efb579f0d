-- Member rows.
use Rattle.std.specs.Prelude.{ℕ, ◌+◌, ◌≤◌, ◌<◌, ◌≡◌, Bool, ◌&&◌, List, length, get_or}
use Rattle.definition.specs.Base.{◌∈◌}
use Rattle.definition.specs.Limits.{parent_limit}
use Rattle.definition.specs.Rule.{Element, Row, Pair, Structure}
use Rattle.definition.specs.Rows.{member_row}
use Rattle.definition.specs.Signature.{Signature, type_parents}
use Rattle.rows.specs.Table.{is_new}
use Rattle.rule.specs.Rows.{has_parents}
use Rattle.rule.specs.Views.{no_element}

-- The columns of the member rows of a type: its parents and the element.
abbrev pub member_columns : Signature → ℕ → ℕ
member_columns sig t = length (type_parents sig t) + 1

-- The member row of the element at a place, in a list of elements and in a structure.
unfoldable pub member_at : List Element → ℕ → Row
member_at els i = member_row (get_or els i no_element)

unfoldable pub member_in : Structure → ℕ → Row
member_in st i = member_row (get_or st.elements i no_element)

-- Elements have few parents, and those of one type equally many, so that their member rows fit the table, and compare column by column.
pub record FewParents (els : List Element) : Type 0 where
  pub few : (e : Element) → e ∈ els → length e.parents ≤ parent_limit
  pub alike : (d e : Element) → d ∈ els → e ∈ els → d.type ≡ e.type → length d.parents ≡ length e.parents

-- Whether an element has a member row that is no image of a row of the source.
unfoldable pub new_member : List Pair → List Row → Element → Bool
new_member pairs sources e = has_parents e && is_new pairs sources (member_row e)

-- Every place is one of so many.
pub record Below (n : ℕ) (places : List ℕ) : Type 0 where
  pub each_below : (i : ℕ) → i ∈ places → i < n
