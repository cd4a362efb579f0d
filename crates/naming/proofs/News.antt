-- The new variables of a structure, element by element.
use Prim.Native.Nat.{ℕ, ◌+◌, ◌≤◌, ◌<◌}
use native.Mathlib.Omega.{arith}
use native.Mathlib.Numerals.{add-one}
use mathlib.Core.List.{List, [], ◌∷◌}
use mathlib.Core.Option.{Option, none, some}
use mathlib.Core.Path.{◌≡◌, refl, sym, ◌∙◌}
use lib.ListN.{length, get_or, set, drop, length-set, drop_of_length-le}
use lib.Seq.{drop-cons, sets}
use borrow.Author.Tests.{lt-ltb, le-ltb}
use Rattle.definition.specs.Base.{each}
use Rattle.definition.specs.Group.{Variable}
use Rattle.definition.specs.Rule.{Structure, Element}
use Rattle.definition.specs.Names.{base_name, new_variable, new_variables}
use Rattle.laws.proofs.Lists.{mem_at}
use Rattle.rule.specs.Structures.{ByteTypes}
use Rattle.rule.specs.Views.{no_element, StructureBy, Sound}
use Rattle.naming.specs.Variables.{bare, spare, kept_by, kept_in, variables_in, new_in}

-- Those from an element on, numbered from a number on, by the variables of a numbered row.
unfoldable pub new_from : Structure → ℕ → List ℕ → ℕ → ℕ → List Variable
new_from st first vars number i = new_variables st number (drop i st.elements) (each (kept_by first) (drop i vars))

pub new_all : (st : Structure) (first : ℕ) (row : List ℕ) → new_in st first row ≡ new_from st first (variables_in st row) first 0
unfolding new_in new_from kept_in
new_all st first row = refl

module _ (st : Structure) (first : ℕ) (vars : List ℕ) (number : ℕ) {i : ℕ} (long : length vars ≡ length st.elements) where
  pub new_on : i < length vars → first ≤ get_or vars i 0
      → new_from st first vars number i ≡ new_variable st number (get_or st.elements i no_element) ∷ new_from st first vars (number + 1) (i + 1)
  unfolding new_from new_variables each
  new_on h e = rw (drop-cons vars i 0 h, le-ltb _ _ e, drop-cons st.elements i no_element (omega arith), add-one i)

  pub new_pass : i < length vars → get_or vars i 0 < first → new_from st first vars number i ≡ new_from st first vars number (i + 1)
  unfolding new_from new_variables each
  new_pass h e = rw (drop-cons vars i 0 h, lt-ltb _ _ e, drop-cons st.elements i no_element (omega arith), add-one i)

  pub new_end : length vars ≤ i → new_from st first vars number i ≡ []
  unfolding new_from new_variables
  new_end h = let past : drop i st.elements ≡ [] = drop_of_length-le st.elements (omega arith) in rw past

-- They are told by the elements and the names alone.
spare_news : (st : Structure) (next : ℕ) (es : List Element) (cs : List (Option ℕ))
    → new_variables (spare st.elements st.variable_names st.identifier_names) next es cs ≡ new_variables st next es cs
unfolding new_variables new_variable base_name
spare_news st next [] cs = refl
spare_news st next (e ∷ es) [] = refl
spare_news st next (e ∷ es) (some v ∷ cs) = spare_news st next es cs
spare_news st next (e ∷ es) (none ∷ cs) = rw (spare_news st (next + 1) es cs)

pub new_spare : (st : Structure) (first : ℕ) (row : List ℕ)
    → new_in (spare st.elements st.variable_names st.identifier_names) first row ≡ new_in st first row
unfolding new_in
new_spare st first row = spare_news st first st.elements _

-- Their types are being stored.
abbrev pub types_of : List Variable → List ℕ
types_of = each (λ (v : Variable). v.type)

-- They are told by the elements alone.
bare_types : (st : Structure) (next : ℕ) (es : List Element) (cs : List (Option ℕ))
    → types_of (new_variables (bare st.elements) next es cs) ≡ types_of (new_variables st next es cs)
unfolding new_variables new_variable each
bare_types st next [] cs = refl
bare_types st next (e ∷ es) [] = refl
bare_types st next (e ∷ es) (some v ∷ cs) = bare_types st next es cs
bare_types st next (e ∷ es) (none ∷ cs) = rw (bare_types st (next + 1) es cs)

pub bare_new : (st : Structure) (first : ℕ) (row : List ℕ) → types_of (new_in (bare st.elements) first row) ≡ types_of (new_in st first row)
unfolding new_in
bare_new st first row = bare_types st first st.elements _

-- The types are bytes.
pub byte_at : {els : List Element} → ByteTypes (bare els) → (i : ℕ) → i < length els → (get_or els i no_element).type < 256
byte_at {els} b i h = b.small _ (mem_at els i no_element h)

pub sound_bytes : {x : StructureBy} → Sound x → ByteTypes (bare x.structure.elements)
sound_bytes {x} w = record { small = λ e m. let s = w.sound.elements_sound e m in omega (arith, s.type_in, w.small.few) }

pub record Typing (st : Structure) (first : ℕ) (vars types₀ types : List ℕ) (number i : ℕ) : Type 0 where
  pub left : sets types₀ first (types_of (new_from st first vars first 0)) ≡ sets types number (types_of (new_from st first vars number i))
  pub few : number ≤ first + i
  pub size : length types ≡ length types₀

module _ {st : Structure} {first : ℕ} {vars types₀ types : List ℕ} {number i : ℕ} (t : Typing st first vars types₀ types number i)
    (long : length vars ≡ length st.elements) where
  pub type_on : {v : ℕ} → i < length vars → first ≤ get_or vars i 0 → v ≡ (get_or st.elements i no_element).type
      → Typing st first vars types₀ (set types number v) (number + 1) (i + 1)
  unfolding each new_variable
  type_on {v} h e q = let f = t.few in record {
    left = t.left ∙ rw (new_on st first vars number long h e, q, add-one number);
    few = omega arith;
    size = length-set types number v ∙ t.size;
  }

  pub type_pass : i < length vars → get_or vars i 0 < first → Typing st first vars types₀ types number (i + 1)
  type_pass h e = let f = t.few in record { left = t.left ∙ rw (new_pass st first vars number long h e); few = omega arith; size = t.size }

  pub type_end : length vars ≤ i → types ≡ sets types₀ first (types_of (new_from st first vars first 0))
  unfolding each
  type_end h = sym (t.left ∙ rw (new_end st first vars number long h))
