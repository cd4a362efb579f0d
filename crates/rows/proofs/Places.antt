-- Places of a structure's elements are places of a mask.
use Prim.Native.Nat.{ℕ, ◌≤◌, ◌<◌}
use native.Mathlib.Omega.{arith}
use mathlib.Core.List.{List}
use mathlib.Core.Path.{◌≡◌, refl}
use lib.ListN.{length}
use Rattle.definition.specs.Limits.{structure_limit}
use Rattle.definition.specs.Names.{numbers_of}
use Rattle.definition.specs.Rule.{Element, Structure}
use Rattle.flags.specs.Flags.{places}
use Rattle.laws.proofs.Lists.{length_each}
use Rattle.rule.specs.ElementFields.{elements_in}
use Rattle.rule.specs.Elements.{Elements, Finds}
use Rattle.rule.proofs.ElementLaws.{listed}
use Rattle.rule.specs.Views.{StructureBy, Sound, listed_numbers, Listed}
use Rattle.std.proofs.Common.{Some}

-- There are as many numbers as elements.
pub numbers_many : (st : Structure) → length (numbers_of st) ≡ length st.elements
unfolding numbers_of
numbers_many st = length_each (λ (e : Element). e.number) st.elements

pub found_below : (st : Structure) {i e : ℕ} → Finds (Some i) e (numbers_of st) → i < length st.elements
found_below st f = let n = numbers_many st in let l = f.is.1 in omega arith

pub numbers_listed : (st : Structure) → numbers_of st ≡ listed_numbers st.elements
unfolding numbers_of
numbers_listed st = refl

-- The same of a list of elements.
pub listed_many : (els : List Element) → length (listed_numbers els) ≡ length els
listed_many els = length_each (λ (e : Element). e.number) els

pub found_among : (els : List Element) {i e : ℕ} → Finds (Some i) e (listed_numbers els) → i < length els
found_among els f = let n = listed_many els in let l = f.is.1 in omega arith

pub listed_seen : {els : List Element} {s index : List ℕ} {k : ℕ} → (k < structure_limit) × Elements s index k → elements_in s index k ≡ els → Listed els
listed_seen w e = rw e at (listed w.1)

module _ {els : List Element} (w : Listed els) where
  pub few_listed : length (listed_numbers els) ≤ places
  few_listed = let n = listed_many els in let few = w.few in omega arith

  pub found_listed : {i e : ℕ} → Finds (Some i) e (listed_numbers els) → i < places
  found_listed f = let few = few_listed in let l = f.is.1 in omega arith

module _ {x : StructureBy} (w : Sound x) where
  pub few_places : length (numbers_of x.structure) ≤ places
  few_places = let n = numbers_many x.structure in let few = w.sound.elements_few in omega arith

  pub found_place : {i e : ℕ} → Finds (Some i) e (numbers_of x.structure) → i < places
  found_place f = let few = few_places in let l = f.is.1 in omega arith
