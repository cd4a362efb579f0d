-- What an accepted rule gives the walk.
use mathlib.Core.Path.{◌≡◌, refl}
use mathlib.Core.List.Memᴰ
use mathlib.Core.List.{List, []}
use mathlib.Core.Option.{Option, none, some}
use Rattle.definition.specs.Base.{or_default, ◌∈◌}
use Rattle.definition.specs.Rule.{Pair}
use Rattle.definition.specs.Names.{numbers_of}
use Rattle.definition.specs.Walk.{pairs_between, structure_at}
use Rattle.rule.specs.Views.{RuleBy, SoundBy}
use Rattle.rule.proofs.SoundParts.{between}
use Rattle.walk.specs.Tables.{Keyed, pairs_on}

module _ {x : RuleBy} (w : SoundBy x) where
  pub keyed : Keyed x.rule
  unfolding pairs_on
  keyed source target p m = go (pairs_between x.rule.maps source target) refl m
    where
      go : (o : Option (List Pair)) → pairs_between x.rule.maps source target ≡ o → p ∈ or_default o []
          → p.key ∈ numbers_of (structure_at x.rule source)
      go none e i = absurd (Memᴰ.not-nil i)
      go (some ps) e i = let b = between x.rule.maps source target e in
          let q = w.sound.maps_sound b.map b.in_maps in
          let k : p.key ∈ numbers_of (structure_at x.rule b.map.source) = q.keys_in p (rw b.pairs_are i) in rw b.source_is at k
