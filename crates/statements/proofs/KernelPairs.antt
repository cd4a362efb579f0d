-- The definition's Equalities are those of the keys' variables.
use Prim.Native.Nat.{ℕ, ◌≤◌, ◌<◌}
use native.Mathlib.Omega.{arith}
use mathlib.Core.List.Memᴰ
use mathlib.Core.List.{List, [], ◌∷◌}
use mathlib.Core.Path.{◌≡◌, refl, sym, ◌∙◌, ap}
use lib.Dec.{eqb}
use lib.ListN.{length, get_or}
use lib.Seq.{get_or-take}
use Rattle.definition.specs.Base.{keep, each, joined, ◌∈◌}
use Rattle.definition.specs.Group.{Variable, Statement}
use Rattle.definition.specs.Kinds.{Side, variable_in, type_in, kernel_variables, equalities}
use Rattle.definition.specs.Letters.{equality}
use Rattle.definition.specs.Limits.{field_limit}
use Rattle.definition.specs.Names.{numbers_of, fiber}
use Rattle.definition.specs.Rows.{pairs_among, kernel_pairs}
use Rattle.definition.specs.Rule.{Structure, Pair}
use Rattle.definition.specs.Signature.{Signature}
use Rattle.laws.proofs.Lists.{mem_keep, mem_each, each_append, get_d_each, length_each, joined_same, mem_at}
use Rattle.rows.proofs.Places.{numbers_many}
use Rattle.rows.specs.Kernel.{TypesOf, SideAt}
use Rattle.rule.specs.MapFields.{KeysIn}
use Rattle.naming.specs.Variables.{GivenOut}
use Rattle.statements.specs.Structures.{side_of}
use Rattle.statements.specs.Equalities.{equality_of, equalities_among, equalities_over, TypedVars, KeysTyped}

-- A row has the variables of its structure's elements.
pub side_at : (st : Structure) (row : List ℕ) → SideAt (numbers_of st) row (side_of st row)
side_at st row = record {
  numbers = refl;
  variables = λ i h. let n = numbers_many st in sym (get_or-take (length st.elements) row i 0 (omega arith));
}

pub keys_typed : {st : Structure} {row : List ℕ} {pairs : List Pair} {size : ℕ} {side : Side} → side ≡ side_of st row → KeysIn (numbers_of st) pairs
    → GivenOut st row size → KeysTyped side pairs size
keys_typed q k g = rw q record { below = λ p i. g.below p.key (k.named p i) }

-- Each key's variable has a type.
module _ {side : Side} {pairs : List Pair} {size : ℕ} (w : KeysTyped side pairs size) where
  fiber_below : (e x : ℕ) → x ∈ fiber pairs e → variable_in side x < size
  unfolding fiber
  fiber_below e x i =
      let a = mem_each (λ (p : Pair). p.key) (keep (λ (p : Pair). eqb p.image e) pairs) i in
      rw a.2 (w.below a.0 (mem_keep (λ (p : Pair). eqb p.image e) pairs a.1).0)

  pub typed_vars : (e : ℕ) {vars : List ℕ} → length vars ≤ field_limit → vars ≡ each (variable_in side) (fiber pairs e) → TypedVars vars size
  typed_vars e {vars} f q = record { few = f; below = below }
    where
      below : (i : ℕ) → i < length vars → get_or vars i 0 < size
      below i l =
          let k : length vars ≡ length (fiber pairs e) = ap length q ∙ length_each (variable_in side) (fiber pairs e) in
          let v : get_or vars i 0 ≡ variable_in side (get_or (fiber pairs e) i 0) =
          rw q (get_d_each (variable_in side) (fiber pairs e) i 0 0 (omega arith)) in
          rw v (fiber_below e (get_or (fiber pairs e) i 0) (mem_at (fiber pairs e) i 0 (omega arith)))

-- The Equalities of pairs of keys.
module _ {types : List ℕ} {table : List Variable} (t : TypesOf table types) (variable : ℕ → ℕ) where
  abbrev of_variables : Pair → Pair
  of_variables p = record { key = variable p.key; image = variable p.image }

  abbrev equal : Pair → Statement
  equal p = record { kind = equality; symbol = type_in table p.key; variables = p.key ∷ p.image ∷ [] }

  with_later : (k : ℕ) → variable k < length types → (ks : List ℕ)
      → each equal (each of_variables (each (λ (l : ℕ). record { key = k; image = l }) ks)) ≡ each (equality_of types (variable k)) (each variable ks)
  unfolding each equality_of
  with_later k h [] = refl
  with_later k h (l ∷ ks) = rw (t.same (variable k) h, with_later k h ks)

  among_are : (ks : List ℕ) → ((k : ℕ) → k ∈ ks → variable k < length types)
      → each equal (each of_variables (pairs_among ks)) ≡ equalities_among types (each variable ks)
  unfolding each pairs_among equalities_among
  among_are [] h = refl
  among_are (k ∷ ks) h =
      rw (each_append, each_append, with_later k (h k (Memᴰ.head refl)) ks, among_are ks (λ l i. h l (Memᴰ.tail i)))

each_joined : {A B C : Type 0} (f : B → C) (g : A → List B) (xs : List A) → each f (joined g xs) ≡ joined (λ (a : A). each f (g a)) xs
unfolding each joined
each_joined f g [] = refl
each_joined f g (x ∷ xs) = rw (each_append, each_joined f g xs)

module _ {source : Side} {pairs : List Pair} {types : List ℕ} (w : KeysTyped source pairs (length types)) {table : List Variable}
    (t : TypesOf table types) where
  abbrev among : ℕ → List Pair
  among e = pairs_among (fiber pairs e)

  by_image : (e : ℕ) → each (equal t (variable_in source)) (each (of_variables t (variable_in source)) (among e))
      ≡ equalities_among types (each (variable_in source) (fiber pairs e))
  by_image e = among_are t (variable_in source) (fiber pairs e) (fiber_below w e)

  all_images : (els : List ℕ) → each (equal t (variable_in source)) (each (of_variables t (variable_in source)) (joined among els))
      ≡ equalities_over (variable_in source) pairs types els
  unfolding equalities_over
  all_images els =
      ap (each (equal t (variable_in source))) (each_joined (of_variables t (variable_in source)) among els)
      ∙ each_joined (equal t (variable_in source)) (λ (e : ℕ). each (of_variables t (variable_in source)) (among e)) els
      ∙ joined_same _ _ by_image els

  pub equalities_are : (target : Side) → equalities table source target pairs ≡ equalities_over (variable_in source) pairs types (numbers_of target.structure)
  unfolding equalities kernel_variables kernel_pairs
  equalities_are target = all_images (numbers_of target.structure)

-- Without kernel pairs there are none.
pub equalities_none : (sig : Signature) (table : List Variable) (source target : Side) (ps : List Pair) → kernel_pairs ps target.structure ≡ []
    → equalities table source target ps ≡ []
unfolding equalities kernel_variables each
equalities_none sig table source target ps e = rw e
