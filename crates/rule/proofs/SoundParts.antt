-- What the maps, kinds and auxiliaries of an accepted rule name is there.
use Prim.Native.Nat.{ℕ, ◌≤◌, ◌<◌}
use native.Mathlib.Omega.{arith}
use mathlib.Core.List.{List}
use mathlib.Core.Option.{some}
use mathlib.Core.Path.{◌≡◌}
use mathlib.Core.Bool.{◌&&◌}
use lib.Dec.{eqb}
use lib.ListN.{length}
use borrow.Author.Tests.{eqb-true}
use Rattle.definition.specs.Base.{◌∈◌}
use Rattle.definition.specs.Letters.{letter_m, letter_k, letter_x}
use Rattle.definition.specs.Limits.{structure_limit}
use Rattle.definition.specs.Records.{Field}
use Rattle.definition.specs.Rule.{Map, Pair, Kind, Auxiliary, map_of, kind_of, auxiliary_of, named_in, rule_part, rule_of}
use Rattle.definition.specs.Walk.{map_of_pair, pairs_between}
use Rattle.laws.proofs.KindTable.{ascending_once}
use Rattle.laws.proofs.Lists.{and_left, and_right, mem_each, first_mem, picked}
use Rattle.laws.proofs.Sound.{among_mem}
use Rattle.laws.proofs.SoundOrder.{kinds_in_order}
use Rattle.laws.proofs.SoundRule.{map_passed, kind_passed, auxiliary_passed, named_at, named_length, rule_parts}
use Rattle.laws.specs.KindTable.{Once}
use Rattle.laws.specs.Sound.{SoundMap}
use Rattle.rule.specs.Lookup.{Ready, rule_at}
use Rattle.rule.proofs.Saying.{structures_are}

-- The map of a pair is one of the maps.
pub record Between (maps : List Map) (source target : ℕ) (pairs : List Pair) : Type 0 where
  pub map : Map
  pub in_maps : map ∈ maps
  pub source_is : map.source ≡ source
  pub target_is : map.target ≡ target
  pub pairs_are : map.pairs ≡ pairs

pub between : (maps : List Map) (source target : ℕ) {pairs : List Pair} → pairs_between maps source target ≡ some pairs → Between maps source target pairs
unfolding pairs_between
between maps source target e =
    let r = first_mem (map_of_pair source target) maps e in
    let p = picked (eqb r.0.source source && eqb r.0.target target) r.0.pairs r.2 in
    record {
      map = r.0;
      in_maps = r.1;
      source_is = eqb-true _ _ (and_left _ _ p.0);
      target_is =
          eqb-true _ _ (and_right (eqb r.0.source source) _ p.0);
      pairs_are = p.1;
    }

module _ {s index : List ℕ} (w : Ready s index) where
  abbrev fields : List Field
  fields = (rule_part s).fields

  pub sound_map : (m : Map) → m ∈ (rule_at s).maps → SoundMap (rule_at s) m
  unfolding rule_at rule_of
  sound_map m i =
      let r = mem_each map_of _ i in
      let p = among_mem letter_m _ fields (rule_parts w.sig fields w.indexed.sound).2 r.1 in
      let q = map_passed (named_in fields) p.0 p.1 r.0 p.2 in
      rw r.2 record {
        source_in = rw (named_length w.sig fields) at q.0;
        target_in = rw (named_length w.sig fields) at q.1;
        keys_in = λ y j. named_at fields _ _ q.0 (q.2 y j).0;
        images_in = λ y j. named_at fields _ _ q.1 (q.2 y j).1;
        keys_ascend_lem = q.3;
      }

  pub sound_kind : (k : Kind) → k ∈ (rule_at s).kinds → (k.source < length (rule_at s).structures) × (k.target < length (rule_at s).structures)
  unfolding rule_at rule_of
  sound_kind k i =
      let r = mem_each kind_of _ i in
      let p = among_mem letter_k _ fields (rule_parts w.sig fields w.indexed.sound).3 r.1 in
      let q = kind_passed (named_in fields) p.0 p.1 r.0 p.2 in
      rw r.2 (rw (named_length w.sig fields) at q.0, rw (named_length w.sig fields) at q.1)

  pub sound_auxiliary : (x : Auxiliary) → x ∈ (rule_at s).auxiliaries → x.structure < length (rule_at s).structures
  unfolding rule_at rule_of
  sound_auxiliary x i =
      let r = mem_each auxiliary_of _ i in
      let p = among_mem letter_x _ fields (rule_parts w.sig fields w.indexed.sound).4 r.1 in
      rw r.2 (rw (named_length w.sig fields) at (auxiliary_passed (named_in fields) p.0 p.1 r.0 p.2))

  pub structures_few : length (rule_at s).structures ≤ structure_limit
  structures_few = let e = structures_are w in omega (arith, w.indexed.known.few)

  -- A pair stands once among the kinds.
  pub kinds_once : Once (rule_at s).kinds
  unfolding rule_at
  kinds_once = ascending_once (rule_at s).kinds (kinds_in_order w.sig fields w.indexed.sound)
