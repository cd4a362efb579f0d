-- A map between two structures, as contracts see it.
use Rattle.std.specs.Prelude.{List, ℕ}
use Rattle.definition.specs.Names.{numbers_of}
use Rattle.definition.specs.Rule.{Structure, Pair}
use Rattle.definition.specs.Signature.{Signature}
use Rattle.definition.specs.Walk.{structure_at}
use Rattle.flags.specs.declared.Mask.{Mask}
use Rattle.rule.specs.MapFields.{KeysIn, ImagesIn}
use Rattle.rule.specs.Views.{RuleBy, StructureBy}
use Rattle.rows.specs.Kernel.{Merged}

-- The two structures and the pairs, with the signature of the rule and the flags of the elements that are images of several keys.
pub record MorphismBy : Type 0 where
  pub sig : Signature
  pub source : Structure
  pub target : Structure
  pub pairs : List Pair
  pub merged : Mask

abbrev pub morphism_by : StructureBy → StructureBy → List Pair → Mask → MorphismBy
morphism_by source target pairs merged = record { sig = target.sig; source = source.structure; target = target.structure; pairs = pairs; merged = merged }

-- In a rule, by the structures' numbers.
abbrev pub morphism_of : RuleBy → ℕ → ℕ → List Pair → Mask → MorphismBy
morphism_of x source target pairs merged = morphism_by (record { sig = x.sig; structure = structure_at x.rule source })
    (record { sig = x.sig; structure = structure_at x.rule target }) pairs merged

-- The keys are elements of the source, the images elements of the target, and the images of several keys are flagged.
pub record Between (m : MorphismBy) : Type 0 where
  pub keys : KeysIn (numbers_of m.source) m.pairs
  pub images : ImagesIn m.target m.pairs
  pub merged : Merged m.merged m.target m.pairs
