-- A map between two structures by themselves, as contracts see it.
use Rattle.std.specs.Prelude.{List, ℕ}
use Rattle.definition.specs.Letters.{predicate, function, member}
use Rattle.definition.specs.Names.{numbers_of}
use Rattle.definition.specs.Rule.{Structure, Pair}
use Rattle.flags.specs.declared.Mask.{Mask}
use Rattle.rule.specs.MapFields.{KeysIn, ImagesIn}
use Rattle.rule.specs.Rows.{Alike, member_rows}
use Rattle.rows.specs.Kernel.{Merged}
use Rattle.rows.specs.Morphisms.{MorphismBy}

-- The two structures and the pairs, with the flags of the elements that are images of several keys.
pub record LinkBy : Type 0 where
  pub source : Structure
  pub target : Structure
  pub pairs : List Pair
  pub merged : Mask

-- A map without its signature.
abbrev pub link_of : MorphismBy → LinkBy
link_of m = record { source = m.source; target = m.target; pairs = m.pairs; merged = m.merged }

-- The rows of the two structures have one number of elements for each symbol, whatever signature gives it: R rows by predicate, A rows by
-- function, member rows by type.
pub record BothAlike (source target : Structure) : Type 0 where
  pub pred_columns : ℕ → ℕ
  pub func_columns : ℕ → ℕ
  pub member_columns : ℕ → ℕ
  pub source_preds : Alike predicate pred_columns source.pred_rows
  pub target_preds : Alike predicate pred_columns target.pred_rows
  pub source_funcs : Alike function func_columns source.func_rows
  pub target_funcs : Alike function func_columns target.func_rows
  pub source_members : Alike member member_columns (member_rows source.elements)
  pub target_members : Alike member member_columns (member_rows target.elements)

-- The keys are elements of the source, the images elements of the target, the images of several keys are flagged, and rows are alike.
pub record Linked (x : LinkBy) : Type 0 where
  pub keys : KeysIn (numbers_of x.source) x.pairs
  pub images : ImagesIn x.target x.pairs
  pub merged : Merged x.merged x.target x.pairs
  pub alike : BothAlike x.source x.target
