-- Statements by flags: what a structure says by its flagged rows, members and elements.
use Rattle.std.specs.Prelude.{Bool, List, [], ◌∷◌, ◌++◌, ℕ, ◌+◌}
use Rattle.definition.specs.Base.{cons_if, keep, each, but_last, place_from}
use Rattle.definition.specs.Letters.{func_domain}
use Rattle.definition.specs.Rule.{Structure, Row}
use Rattle.definition.specs.Group.{Statement}
use Rattle.definition.specs.Names.{numbers_of, variable_at}
use Rattle.definition.specs.Rows.{members, last_element, row_statement, type_sets}
use Rattle.flags.specs.declared.Mask.{Mask}
use Rattle.flags.specs.Flags.{flag_at}
use Rattle.statements.specs.declared.masks.Masks.{Masks}

-- Those of a list whose flags are set, from a place on; and from the first.
unfoldable pub flagged_from : {A : Type 0} → Mask → ℕ → List A → List A
flagged_from mask i [] = []
flagged_from mask i (x ∷ xs) = cons_if (flag_at mask i) x (flagged_from mask (i + 1) xs)

abbrev pub flagged : {A : Type 0} → Mask → List A → List A
flagged mask xs = flagged_from mask 0 xs

-- A member row's flag is that of its element's place.
unfoldable pub member_flag : Structure → Mask → Row → Bool
member_flag st mask r = flag_at mask (place_from 0 (last_element r) (numbers_of st))

-- The flagged R rows, A rows and member rows.
abbrev pub apps_by : Structure → List ℕ → Masks → List Statement
apps_by st variables masks =
    each (row_statement (variable_at st variables))
    (flagged masks.preds st.pred_rows ++ flagged masks.funcs st.func_rows ++ keep (member_flag st masks.members) (members st))

-- These, and TypeSets of the flagged elements without parents.
unfoldable pub said_by : Structure → List ℕ → Masks → List Statement
said_by st variables masks = apps_by st variables masks ++ type_sets (variable_at st variables) (flagged masks.free st.elements)

-- FuncDomain of each flagged A row.
unfoldable pub domains_by : Structure → List ℕ → Mask → List Statement
domains_by st variables mask =
    each (λ (r : Row). record { kind = func_domain; symbol = r.symbol; variables = each (variable_at st variables) (but_last r.elements) })
    (flagged mask st.func_rows)
