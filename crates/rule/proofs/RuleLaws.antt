-- What is known of a rule that was read, and of one that was accepted, and the search for a map.
use Prim.Native.Nat.{ℕ}
use native.Mathlib.Omega.{arith}
use mathlib.Core.Bool.{true, false, ◌&&◌}
use mathlib.Core.List.{List, ◌∷◌}
use mathlib.Core.Option.{some}
use mathlib.Core.Path.{◌≡◌}
use lib.Dec.{eqb}
use Rattle.definition.specs.Base.{first_of}
use Rattle.definition.specs.Rule.{Map, Pair, Rule}
use Rattle.definition.specs.Signature.{Signature}
use Rattle.definition.specs.Walk.{map_of_pair, pairs_between}
use Rattle.laws.proofs.SoundRule.{sound_rule}
use Rattle.rule.proofs.Finding.{numbers_length, numbers_ascend}
use Rattle.rule.proofs.MapLaws.{few_keys}
use Rattle.rule.proofs.Saying.{known_at, numbers_are}
use Rattle.rule.proofs.SoundParts.{between, sound_map, sound_kind, sound_auxiliary, structures_few, kinds_once}
use Rattle.rule.proofs.ViewLaws.{ready}
use Rattle.rule.specs.Answers.{Accepted}
use Rattle.rule.specs.Elements.{element_numbers}
use Rattle.rule.specs.Lookup.{Ready, rule_at}
use Rattle.rule.specs.Pairs.{FewAscending}
use Rattle.rule.specs.Views.{SoundBy, TailSound, MapsSound, Joined}

joined_as : {rule : Rule} {a b source target : ℕ} {ps pairs : List Pair} → a ≡ source → b ≡ target → ps ≡ pairs → Joined rule a b ps
    → Joined rule source target pairs
joined_as p q r j = rw (← p, ← q, ← r) j

few_as : {ps pairs : List Pair} → ps ≡ pairs → FewAscending ps → FewAscending pairs
few_as r f = rw (← r) f

-- A rule that was read.
module _ {s index : List ℕ} (w : Ready s index) where
  pub tail_sound : TailSound (rule_at s)
  tail_sound = record { few = structures_few w; once = kinds_once w; kinds_in = sound_kind w; auxiliaries_in = sound_auxiliary w }

  -- A map that was found.
  module _ (source target : ℕ) {pairs : List Pair} (e : pairs_between (rule_at s).maps source target ≡ some pairs) where
    pub map_joined : Joined (rule_at s) source target pairs
    map_joined =
        let b = between (rule_at s).maps source target e in
        let m = sound_map w b.map b.in_maps in
        joined_as b.source_is b.target_is b.pairs_are
        record { source_in = m.source_in; target_in = m.target_in; keys_in = m.keys_in; images_in = m.images_in }

    pub map_few : FewAscending pairs
    map_few =
        let b = between (rule_at s).maps source target e in
        let m = sound_map w b.map b.in_maps in
        let els = known_at w m.source_in in
        let n = few_keys b.map.pairs (element_numbers s index b.map.source) m.keys_ascend_lem (numbers_ascend els)
        (λ p i. rw (numbers_are w m.source_in) (m.keys_in p i)) in
        let c = numbers_length s index b.map.source in
        let l = els.few in
        few_as b.pairs_are record { few = omega arith; ascend = m.keys_ascend_lem }

  pub maps_sound : MapsSound (rule_at s)
  maps_sound = record { few = λ source target pairs e. map_few source target e; joined = λ source target pairs e. map_joined source target e }

-- One that was accepted.
pub sound_by : {sig : Signature} {s index : List ℕ} {n : ℕ} → Accepted sig s index n → SoundBy (record { sig = sig; rule = rule_at s })
unfolding rule_at
sound_by {sig} {s} w =
    let t = tail_sound (ready w) in
    record { sound = sound_rule sig s w.read; small = w.small; once = t.once; kinds_in = t.kinds_in; auxiliaries_in = t.auxiliaries_in }

-- The search along the M fields.
module _ (source target : ℕ) (m : Map) (rest : List Map) where
  pub map_hit : eqb m.source source && eqb m.target target ≡ true → first_of (map_of_pair source target) (m ∷ rest) ≡ some m.pairs
  unfolding first_of
  map_hit h = rw h

  pub map_miss : eqb m.source source && eqb m.target target ≡ false
      → first_of (map_of_pair source target) (m ∷ rest) ≡ first_of (map_of_pair source target) rest
  unfolding first_of
  map_miss h = rw h
