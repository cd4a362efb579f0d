-- Names and types of the elements of an accepted structure: both are small.
use Prim.Native.Nat.{ℕ, ◌≤◌, ◌<◌}
use native.Mathlib.Omega.{arith}
use mathlib.Core.List.{List}
use mathlib.Core.Option.{Option, none, some}
use mathlib.Core.Path.{◌≡◌, refl}
use mathlib.Core.Bool.{false}
use lib.Dec.{eqb}
use lib.ListN.{length, get_or}
use Rattle.definition.specs.Base.{or_else, or_default, first_of, ◌∈◌}
use Rattle.definition.specs.Limits.{symbol_limit, name_bytes}
use Rattle.definition.specs.Names.{name_for, base_name, el}
use Rattle.definition.specs.Records.{bad_name}
use Rattle.definition.specs.Rule.{Name, Structure}
use Rattle.definition.specs.Signature.{Signature}
use Rattle.laws.proofs.Lists.{first_mem, picked, mem_at}
use Rattle.laws.proofs.NameLaws.{fine}
use Rattle.laws.specs.Sound.{SoundStructure}
use Rattle.rule.specs.Views.{StructureBy, Sound, no_element}

-- A first name is one of the names, whose lengths are permitted.
first_short : (e : ℕ) (names : List Name) → ((n : Name) → n ∈ names → bad_name 1 name_bytes n.name ≡ false)
    → {bytes : List ℕ} → first_of (name_for e) names ≡ some bytes → length bytes ≤ name_bytes
first_short e names good q =
    let r = first_mem (name_for e) names q in
    let p = picked (eqb r.0.element e) r.0.name r.2 in
    rw (← p.1) (fine 1 name_bytes r.0.name (good r.0 r.1)).short

module _ {sig : Signature} {st : Structure} (w : SoundStructure sig st) where
  pub base_short : (e : ℕ) → length (base_name st e) ≤ name_bytes
  unfolding base_name
  base_short e = go (first_of (name_for e) st.variable_names) (first_of (name_for e) st.identifier_names) refl refl
    where
      go : (v i : Option (List ℕ)) → first_of (name_for e) st.variable_names ≡ v → first_of (name_for e) st.identifier_names ≡ i
          → length (or_default (or_else v i) el) ≤ name_bytes
      go (some name) i p q = first_short e st.variable_names w.variables_sound p
      go none (some name) p q = first_short e st.identifier_names w.identifiers_sound q
      go none none p q = omega arith

module _ {x : StructureBy} (w : Sound x) where
  -- The type of an element is one of few.
  pub type_small : (i : ℕ) → i < length x.structure.elements → (get_or x.structure.elements i no_element).type < symbol_limit
  type_small i h =
      let e = w.sound.elements_sound _ (mem_at x.structure.elements i no_element h) in
      omega (arith, e.type_in, w.small.few)
