-- Rows of variables as lists.
use Rattle.std.specs.Prelude as std
use Rattle.std.specs.Prelude.{Some, None, List, [], ◌++◌, ℕ, ◌-◌, ◌<◌, ltb, length, take, replicate}
use Rattle.std.proofs.Math.Option.{Option, none, some}
use Rattle.definition.specs.Base.{pick, each, ◌∈◌}
use Rattle.definition.specs.Limits.{field_limit}
use Rattle.definition.specs.Rule.{Structure, Element, Name}
use Rattle.definition.specs.Group.{Variable}
use Rattle.definition.specs.Names.{numbers_of, variable_at, new_variables}

-- A structure of which the elements alone are known.
abbrev pub bare : List Element → Structure
bare els = record { elements = els; pred_rows = []; func_rows = []; variable_names = []; identifier_names = [] }

-- A structure of which its elements and names are known.
abbrev pub spare : List Element → List Name → List Name → Structure
spare els variables identifiers = record {
  elements = els;
  pred_rows = [];
  func_rows = [];
  variable_names = variables;
  identifier_names = identifiers;
}

-- Stands in a row behind the variables of the elements.
abbrev pub no_var : ℕ
no_var = 65535

-- Variables as a whole row.
unfoldable pub row_of : List ℕ → List ℕ
row_of vs = vs ++ replicate (field_limit - length vs) no_var

-- What an element takes over, as the definition's.
abbrev pub taken_by : std.Option ℕ → Option ℕ
taken_by (Some v) = some v
taken_by None = none

-- What the elements of a structure take over.
unfoldable pub taken_in : Structure → List (std.Option ℕ) → List (Option ℕ)
taken_in st taken = each taken_by (take (length st.elements) taken)

-- What the elements took over, by a row that was numbered from `first` on: the entries below it were taken over.
abbrev pub kept_by : ℕ → ℕ → Option ℕ
kept_by first v = pick (ltb v first) (some v) none

unfoldable pub kept_in : ℕ → ℕ → List ℕ → List (Option ℕ)
kept_in first count row = each (kept_by first) (take count row)

-- The variables of a structure's elements in a row.
abbrev pub variables_in : Structure → List ℕ → List ℕ
variables_in st row = take (length st.elements) row

-- Each element's variable is one of those given out so far.
pub record GivenOut (st : Structure) (row : List ℕ) (next : ℕ) : Type 0 where
  pub below : (e : ℕ) → e ∈ numbers_of st → variable_at st (variables_in st row) e < next

-- The new variables of a structure, by its row numbered from `first` on.
unfoldable pub new_in : Structure → ℕ → List ℕ → List Variable
new_in st first row = new_variables st first st.elements (kept_in first (length st.elements) row)
