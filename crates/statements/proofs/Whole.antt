-- What a structure says, in the parts that are written.
use Prim.Native.Nat.{ℕ}
use mathlib.Core.List.{List, ◌++◌}
use mathlib.Core.Path.{◌≡◌, refl}
use Rattle.definition.specs.Kinds.{Side}
use Rattle.definition.specs.Names.{variable_at}
use Rattle.definition.specs.Rows.{row_statement, type_sets}
use Rattle.definition.specs.Rule.{Structure}
use Rattle.flags.specs.declared.Mask.{Mask}
use Rattle.laws.proofs.ByteForm.{statements_append}
use Rattle.laws.proofs.Lists.{each_append}
use Rattle.laws.specs.Bytes.{statement_bytes}
use Rattle.statements.specs.Parts.{rows_said, members_said, types_said}
use Rattle.statements.specs.Said.{flagged, apps_by, said_by, domains_by}
use Rattle.statements.specs.declared.masks.Masks.{Masks}
use Rattle.statements.specs.declared.masks.SaidAs.TheVariants.{Predicates, Functions, Domains}

module _ (letter : ℕ) (side : Side) where
  pub apps_parts : (masks : Masks) → statement_bytes letter (apps_by side.structure side.variables masks)
      ≡ statement_bytes letter (rows_said side Predicates masks.preds)
      ++ statement_bytes letter (rows_said side Functions masks.funcs)
      ++ statement_bytes letter (members_said side masks.members)
  unfolding rows_said
  apps_parts masks = rw (each_append, each_append, statements_append, statements_append) refl

  pub domains_are : (mask : Mask) → rows_said side Domains mask ≡ domains_by side.structure side.variables mask
  unfolding rows_said domains_by row_statement
  domains_are mask = refl

pub said_parts : (letter : ℕ) (st : Structure) (variables : List ℕ) (masks : Masks) → statement_bytes letter (said_by st variables masks)
    ≡ statement_bytes letter (apps_by st variables masks) ++ statement_bytes letter (type_sets (variable_at st variables) (flagged masks.free st.elements))
unfolding said_by
said_parts letter st variables masks = statements_append letter (apps_by st variables masks) _

-- The same of a side that is given by equation.
pub said_in : (letter : ℕ) (masks : Masks) {side whole : Side} → side ≡ whole
    → statement_bytes letter (said_by whole.structure whole.variables masks)
    ≡ statement_bytes letter (apps_by side.structure side.variables masks)
    ++ statement_bytes letter (types_said side (flagged masks.free side.structure.elements))
said_in letter masks {side} q = rw (← q) (said_parts letter side.structure side.variables masks)
