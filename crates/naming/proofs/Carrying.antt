-- Variables carried over a map, pair by pair.
use Prim.Native.Nat.{ℕ, zero, suc, ◌+◌, ◌≤◌, ◌<◌}
use native.Mathlib.Omega.{arith}
use native.Mathlib.Decide.{ℕ_discrete}
use native.Mathlib.Numerals.{add-one}
use mathlib.Core.List.{List, [], ◌∷◌, ◌++◌}
use mathlib.Core.Logic.{⊎_elim}
use mathlib.Core.Option.{Option, none, some}
use mathlib.Core.Path.{◌≡◌, refl, sym, ◌∙◌}
use lib.Dec.{eqb}
use lib.ListN.{length, get_or, set, take, length-set, replicate}
use lib.Seq.{ext_get_or, get_or-set_same, get_or-set_other, take-suc, take-set-lt, get_or-take}
use borrow.Author.Tests.{eq-eqb, ne_eqb}
use Rattle.std.specs.Prelude as std
use Rattle.std.specs.Prelude.{Some, None}
use Rattle.definition.specs.Base.{or_else, keep, each, last_of, given}
use Rattle.definition.specs.Limits.{field_limit, structure_limit}
use Rattle.definition.specs.Rule.{Structure, Element, Pair}
use Rattle.definition.specs.Names.{numbers_of, variable_at, fiber, carried_key, over_map, carried}
use Rattle.definition.specs.Rows.{in_image}
use Rattle.definition.specs.Walk.{nothing_taken}
use Rattle.records.proofs.Lists.{keep_append}
use Rattle.laws.proofs.Lists.{each_append, length_each, get_d_each, trichotomy, never, mem_has, has_mem, mem_each, any_mem, mem_at}
use Rattle.laws.proofs.Numbering.{place_in, carried_pair, not_carried}
use Rattle.laws.proofs.Choices.{last_append, each_each, each_same}
use Rattle.rule.proofs.ElementLaws.{listed}
use Rattle.rule.specs.ElementFields.{elements_in}
use Rattle.rule.specs.Elements.{Elements, Finds}
use Rattle.rule.specs.MapFields.{KeysIn, ImagesIn}
use Rattle.rule.specs.Pairs.{no_pair}
use Rattle.rule.specs.Views.{listed_numbers, Listed}
use Rattle.rows.proofs.Places.{numbers_many, found_below}
use Rattle.rows.specs.Morphisms.{MorphismBy}
use Rattle.naming.specs.Maps.{taken_between, taken_over, Joins}
use Rattle.naming.specs.Variables.{bare, taken_by, taken_in, variables_in, GivenOut}
use Rattle.naming.proofs.Whole.{TakenBelow}

-- One more pair: its key is the carried one of its image, and nothing else changes.
module _ (ps : List Pair) (q : Pair) (e : ℕ) where
  key_more : carried_key (ps ++ (q ∷ [])) e ≡ or_else (last_of (fiber (q ∷ []) e)) (carried_key ps e)
  unfolding carried_key fiber
  key_more = rw (keep_append (λ (p : Pair). eqb p.image e) ps (q ∷ []), each_append) (last_append _ _)

  key_same : q.image ≡ e → carried_key (ps ++ (q ∷ [])) e ≡ some q.key
  unfolding fiber keep each last_of
  key_same h = key_more ∙ rw (eq-eqb _ _ h)

  key_other : (q.image ≡ e → ⊥) → carried_key (ps ++ (q ∷ [])) e ≡ carried_key ps e
  unfolding fiber keep each last_of
  key_other h = key_more ∙ rw (ne_eqb _ _ h)

-- A function that alters at one number only alters one entry.
each_set : (f g : ℕ → Option ℕ) (ns : List ℕ) (j : ℕ) (y : Option ℕ) → j < length ns
    → ((i k : ℕ) → i < k → k < length ns → get_or ns i 0 < get_or ns k 0)
    → ((e : ℕ) → (get_or ns j 0 ≡ e → ⊥) → g e ≡ f e) → g (get_or ns j 0) ≡ y → each g ns ≡ set (each f ns) j y
each_set f g ns j y h rises other same = ext_get_or none (each g ns) (set (each f ns) j y) long at
  where
    long : length (each g ns) ≡ length (set (each f ns) j y)
    long = length_each g ns ∙ sym (length-set (each f ns) j y ∙ length_each f ns)

    at : (i : ℕ) → i < length (each g ns) → get_or (each g ns) i none ≡ get_or (set (each f ns) j y) i none
    at i l = let k : i < length ns = rw (length_each g ns) at l in get_d_each g ns i 0 none k ∙ go (ℕ_discrete i j) k
      where
        go : Dec (i ≡ j) → i < length ns → g (get_or ns i 0) ≡ get_or (set (each f ns) j y) i none
        go (yes q) k = rw q (same ∙ sym (get_or-set_same (each f ns) j y none (rw (length_each f ns) h)))
        go (no q) k = other (get_or ns i 0)
            (λ e. ⊎_elim (λ z. let r = rises i j z h in omega arith) (⊎_elim (λ z. q z) (λ z. let r = rises j i z k in omega arith)) (trichotomy i j))
            ∙ sym (get_or-set_other (each f ns) j i y none q ∙ get_d_each f ns i 0 none k)

-- What the target's elements take over, by the pairs so far.
module _ (source target : Structure) (vs : List ℕ) where
  abbrev takes : List Pair → ℕ → Option ℕ
  takes ps e = over_map (variable_at source vs) (carried_key ps e)

  pub length_carried : (ps : List Pair) → length (carried source vs ps target) ≡ length target.elements
  unfolding carried
  length_carried ps = length_each _ (numbers_of target) ∙ numbers_many target

  carried_more : ((i k : ℕ) → i < k → k < length (numbers_of target) → get_or (numbers_of target) i 0 < get_or (numbers_of target) k 0)
      → (ps : List Pair) (q : Pair) (j : ℕ) → j < length (numbers_of target) → get_or (numbers_of target) j 0 ≡ q.image
      → carried source vs (ps ++ (q ∷ [])) target ≡ set (carried source vs ps target) j (some (variable_at source vs q.key))
  unfolding carried
  carried_more rises ps q j h g =
      each_set (takes ps) (takes (ps ++ (q ∷ []))) (numbers_of target) j _ h rises
      (λ e d. rw (key_other ps q e (λ z. d (g ∙ z))))
      (rw (key_same ps q (get_or (numbers_of target) j 0) (sym g)))

-- Where nothing is taken over.
blank : {A : Type 0} (xs : List A) (k : ℕ) → length xs ≤ k → each taken_by (take (length xs) (replicate k None)) ≡ each {B = Option ℕ} (λ (x : A). none) xs
unfolding each
blank [] k h = refl
blank (x ∷ xs) zero h = absurd (omega arith)
blank (x ∷ xs) (suc k) h = rw (blank xs k (omega arith))

pub none_taken : {els : List Element} → Listed els → taken_in (bare els) (replicate field_limit None) ≡ nothing_taken (bare els)
unfolding taken_in
none_taken {els} w = blank els field_limit w.few

-- An entry is put.
each_put : {A B : Type 0} (f : A → B) (xs : List A) (j : ℕ) (y : A) → each f (set xs j y) ≡ set (each f xs) j (f y)
unfolding each
each_put f [] j y = refl
each_put f (x ∷ xs) zero y = refl
each_put f (x ∷ xs) (suc j) y = rw (each_put f xs j y)

-- A list of elements is few, and ascends.
pub listed_seen : {els : List Element} {s index : List ℕ} {k : ℕ} → (k < structure_limit) × Elements s index k → elements_in s index k ≡ els → Listed els
listed_seen w e = rw (← e) (listed w.1)

pub listed_place : {els : List Element} → Listed els → {i e : ℕ} → Finds (Some i) e (listed_numbers els) → i < field_limit
listed_place {els} w f = let n = length_each (λ (e : Element). e.number) els in let few = w.few in let l = f.is.1 in omega arith

-- What is taken over is being found along the pairs of a map.
pub record Carrying (row : List ℕ) (source target : List Element) (pairs : List Pair) (taken : List (std.Option ℕ)) (p : ℕ) : Type 0 where
  pub same : taken_in (bare target) taken ≡ taken_between row source target (take p pairs)

-- Keys and images are found.
pub not_absent : {source target : List Element} {pairs : List Pair} {A : Type 0} {p : ℕ} → Joins source target pairs → p < length pairs
    → (Finds None (get_or pairs p no_pair).key (listed_numbers source) → A) × (Finds None (get_or pairs p no_pair).image (listed_numbers target) → A)
not_absent {pairs = pairs} {A} {p} b h =
    let i = mem_at pairs p no_pair h in
    ((λ f. never (mem_has _ _ (b.keys _ i)) f.is), (λ f. never (mem_has _ _ (b.images _ i)) f.is))

module _ (row : List ℕ) (source target : List Element) (pairs : List Pair) where
  pub carrying : Listed target → Carrying row source target pairs (replicate field_limit None) 0
  unfolding taken_in carried carried_key fiber keep last_of each
  carrying w = record {
    same =
        let n = numbers_many (bare target) in let few = w.few in rw (← n) (blank (numbers_of (bare target)) field_limit (omega arith));
  }

  -- The variable at the place where a number was found.
  entry : {e i : ℕ} → Finds (Some i) e (numbers_of (bare source)) → variable_at (bare source) (variables_in (bare source) row) e ≡ get_or row i 0
  unfolding variable_at
  entry {e} {i} f = rw (← f.is.0) (get_or-take (length source) row i 0 (found_below (bare source) f))

  -- A pair's key and image were found.
  carry_on : {taken : List (std.Option ℕ)} {p i j : ℕ}
      → ((i k : ℕ) → i < k → k < length (numbers_of (bare target)) → get_or (numbers_of (bare target)) i 0 < get_or (numbers_of (bare target)) k 0)
      → Carrying row source target pairs taken p → p < length pairs
      → Finds (Some i) (get_or pairs p no_pair).key (numbers_of (bare source)) → Finds (Some j) (get_or pairs p no_pair).image (numbers_of (bare target))
      → Carrying row source target pairs (set taken j (Some (get_or row i 0))) (p + 1)
  unfolding taken_in
  carry_on {taken} {p} {i} {j} ascend c h f g =
      let x = place_in _ (numbers_of (bare target)) (has_mem _ _ g.is.2) in
      let e : get_or (numbers_of (bare target)) j 0 ≡ (get_or pairs p no_pair).image = rw g.is.0 x.1 in
      let more = carried_more (bare source) (bare target) (variables_in (bare source) row) ascend (take p pairs) (get_or pairs p no_pair) j g.is.1 e in
      record {
        same = rw (
          add-one,
          take-suc pairs p no_pair h,
          more,
          entry f,
          take-set-lt (length target) taken j _ (found_below (bare target) g),
          each_put,
          ← c.same,
        );
      }

  pub carry : {taken : List (std.Option ℕ)} {p i j : ℕ} → Listed target → Carrying row source target pairs taken p → p < length pairs
      → Finds (Some i) (get_or pairs p no_pair).key (listed_numbers source) → Finds (Some j) (get_or pairs p no_pair).image (listed_numbers target)
      → Carrying row source target pairs (set taken j (Some (get_or row i 0))) (p + 1)
  unfolding numbers_of
  carry w = carry_on w.ascend

-- The elements tell of a map what their structures do.
module _ (source target : Structure) (pairs : List Pair) where
  pub listed_joins : KeysIn (numbers_of source) pairs → ImagesIn target pairs → Joins source.elements target.elements pairs
  unfolding numbers_of
  listed_joins k i = record { keys = k.named; images = i.named }

  pub listed_taken : (row : List ℕ) → taken_between row source.elements target.elements pairs ≡ carried source (variables_in source row) pairs target
  unfolding carried variable_at numbers_of
  listed_taken row = refl

-- What is taken over was given out before.
pub taken_below : {row : List ℕ} (m : MorphismBy) {next : ℕ} → KeysIn (numbers_of m.source) m.pairs → GivenOut m.source row next
    → TakenBelow next (taken_over row m)
unfolding carried
taken_below {row} m {next} keys g =
    record { below = λ v i. let w = mem_each _ (numbers_of m.target) i in go v w.0 (carried_key m.pairs w.0) refl w.2 }
  where
    go : (v e : ℕ) (o : Option ℕ) → carried_key m.pairs e ≡ o → some v ≡ over_map (variable_at m.source (variables_in m.source row)) o → v < next
    go v e none q h = let z : ◌≡◌ {A = ℕ} 0 1 = cc in absurd (omega arith)
    go v e (some k) q h =
        let p = carried_pair m.pairs e q in
        let x : v ≡ variable_at m.source (variables_in m.source row) k = cc in
        rw (x, p.2) (g.below p.0.key (keys.named p.0 p.1))

-- Structure 0 takes nothing over.
pub nothing_below : (st : Structure) → TakenBelow 0 (nothing_taken st)
nothing_below st = record { below = λ v i. let w = mem_each _ st.elements i in let z : ◌≡◌ {A = ℕ} 0 1 = clash w.2 in absurd (omega arith) }
  where
    clash : {v : ℕ} → some v ≡ none → ◌≡◌ {A = ℕ} 0 1
    clash e = cc

pub length_nothing : (st : Structure) → length (nothing_taken st) ≡ length st.elements
length_nothing st = length_each _ st.elements

-- The images are the elements that take something over.
pub given_images : (source target : Structure) (vs : List ℕ) (pairs : List Pair)
    → each given (carried source vs pairs target) ≡ each (in_image pairs) (numbers_of target)
unfolding carried in_image
given_images source target vs pairs =
    each_each given _ (numbers_of target) ∙ each_same _ (in_image pairs) (λ e. whether e (carried_key pairs e) refl) (numbers_of target)
  where
    whether : (e : ℕ) (o : Option ℕ) → carried_key pairs e ≡ o → given (over_map (variable_at source vs) o) ≡ in_image pairs e
    whether e none q = sym (not_carried pairs e q)
    whether e (some k) q = let p = carried_pair pairs e q in sym (any_mem (λ (x : Pair). eqb x.image e) pairs p.1 (eq-eqb _ _ p.3))
