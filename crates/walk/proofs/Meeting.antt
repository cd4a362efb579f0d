-- The map between two structures, as the walk comes to it.
use mathlib.Core.List.{List}
use mathlib.Core.Option.{some}
use mathlib.Core.Path.{◌≡◌}
use Prim.Native.Nat.{ℕ}
use Rattle.definition.specs.Rule.{Pair}
use Rattle.definition.specs.Walk.{pairs_between, structure_at}
use Rattle.flags.specs.declared.Mask.{Mask}
use Rattle.rule.specs.Views.{RuleBy, SoundBy}
use Rattle.rule.specs.declared.tail.MorphismKind.{MorphismKind}
use Rattle.rows.specs.Links.{LinkBy, link_of}
use Rattle.rows.specs.Morphisms.{MorphismBy}
use Rattle.walk.specs.Linked.{Links}
use Rattle.walk.specs.Tables.{pairs_on}
use Rattle.walk.specs.Went.{Kinded, map_on}
use Rattle.walk.proofs.Grounds.{keyed}

-- By the pairs that were found.
pub met : (x : RuleBy) (source target : ℕ) {m : MorphismBy} {pairs : List Pair} {merged : Mask} → some pairs ≡ pairs_between x.rule.maps source target
    → m ≡ record { sig = x.sig; source = structure_at x.rule source; target = structure_at x.rule target; pairs = pairs; merged = merged }
    → m ≡ map_on x source target m.merged
unfolding pairs_on
met x source target p e = rw (e, ← p)

-- By itself it is still one of the rule.
pub links : {x : RuleBy} → SoundBy x → {source target : ℕ} {kind : MorphismKind} → Kinded x source target kind → {l : LinkBy} {merged : Mask}
    → l ≡ link_of (map_on x source target merged) → Links x l source target kind
links w k e = record { keyed = keyed w; kinded = k; from = rw e; to = rw e; pairs = rw e }
