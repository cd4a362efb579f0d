-- The elements that are images of several keys, as one pass over the pairs tells with a mark for each image; without one there are no
-- kernel pairs.
use Prim.Native.Nat.{ℕ, zero, suc, ◌+◌, ◌≤◌, ◌<◌}
use native.Mathlib.Omega.{arith}
use native.Mathlib.Decide.{ℕ_discrete}
use mathlib.Core.Bool.{Bool, true, false, not, ◌&&◌, ◌||◌}
use mathlib.Core.List.{List, [], ◌∷◌, ◌++◌, append-nil}
use mathlib.Core.Logic.{⊎_elim}
use mathlib.Core.Path.{◌≡◌, refl, sym, ◌∙◌, ap}
use lib.Dec.{eqb, ltb}
use lib.ListN.{length, get_or, set, take, replicate, get_or-replicate, length-append}
use lib.Seq.{get_or-set_same, get_or-set_other, take_all}
use borrow.Author.Tests.{eq-eqb, ne_eqb, lt-ltb, le-ltb, ltb-false}
use Rattle.definition.specs.Base.{cons_if, keep, each, joined, any, has}
use Rattle.definition.specs.Group.{Variable}
use Rattle.definition.specs.Kinds.{Side, kernel_variables, kernel_clashes}
use Rattle.definition.specs.Names.{numbers_of, fiber}
use Rattle.definition.specs.Rows.{pairs_among, kernel_pairs}
use Rattle.definition.specs.Rule.{Structure, Pair}
use Rattle.records.proofs.Lists.{keep_append}
use Rattle.laws.proofs.Lists.{never, has_mem, mem_has, each_append, trichotomy, mem_at}
use Rattle.laws.proofs.Numbering.{place_in}
use Rattle.rule.specs.Elements.{Finds}
use Rattle.std.proofs.Common.{Some, None}
use Rattle.rule.proofs.Finding.{Ascending}
use Rattle.flags.specs.declared.Mask.{Mask}
use Rattle.flags.specs.Flags.{places, flag_at, no_flags, none_set, PackedLess}
use Rattle.flags.proofs.Words.{above_none, no_flag, none_no_flag}
use Rattle.records.proofs.Parts.{take_more}
use Rattle.rule.specs.MapFields.{ImagesIn}
use Rattle.rule.specs.Pairs.{no_pair}
use Rattle.rows.specs.Arguments.{Marks}
use Rattle.rows.specs.Kernel.{Merged, several_at, images_ascend}
use Rattle.rows.proofs.ArgumentLaws.{marks_none, mark_at}
use Rattle.rows.proofs.Ascending.{fiber_one}

-- The keys of an image, with one more pair.
module _ (ps : List Pair) (q : Pair) (e : ℕ) where
  more_same : q.image ≡ e → length (fiber (ps ++ (q ∷ [])) e) ≡ length (fiber ps e) + 1
  unfolding fiber keep each
  more_same h = rw (keep_append (λ (p : Pair). eqb p.image e) ps (q ∷ []), each_append, eq-eqb _ _ h, length-append)

  more_other : (q.image ≡ e → ⊥) → length (fiber (ps ++ (q ∷ [])) e) ≡ length (fiber ps e)
  unfolding fiber keep each
  more_other h = rw (keep_append (λ (p : Pair). eqb p.image e) ps (q ∷ []), each_append, ne_eqb _ _ h, append-nil)

-- An image that was seen has a key.
seen_keys : (e : ℕ) (ps : List Pair) → has e (each (λ (p : Pair). p.image) ps) ≡ ltb 0 (length (fiber ps e))
unfolding has any fiber keep each
seen_keys e [] = sym (le-ltb 0 0 (omega arith))
seen_keys e (p ∷ ps) = go (eqb p.image e) (seen_keys e ps)
  where
    go : (b : Bool) → has e (each (λ (q : Pair). q.image) ps) ≡ ltb 0 (length (fiber ps e))
        → (b || has e (each (λ (q : Pair). q.image) ps)) ≡ ltb 0 (length (each (λ (q : Pair). q.key) (cons_if b p (keep (λ (q : Pair). eqb q.image e) ps))))
    go true i = sym (lt-ltb 0 (suc (length (fiber ps e))) (omega arith))
    go false i = i

one_more : (n : ℕ) → ltb 0 n ≡ ltb 1 (n + 1)
one_more zero = le-ltb 0 0 (omega arith) ∙ sym (le-ltb 1 1 (omega arith))
one_more (suc n) = lt-ltb 0 (suc n) (omega arith) ∙ sym (lt-ltb 1 (suc n + 1) (omega arith))

-- The loop: the images of the first pairs are marked, and those of several of them once more.
abbrev images_to : List Pair → ℕ → List ℕ
images_to pairs p = each (λ (q : Pair). q.image) (take p pairs)

pub record Several (pairs : List Pair) (els : List ℕ) (seen merged : List Bool) (p : ℕ) : Type 0 where
  pub marks : Marks seen els (images_to pairs p)
  pub several : (j : ℕ) → j < length els → get_or merged j false ≡ several_at els (take p pairs) j

pub several_start : (pairs : List Pair) (els : List ℕ) → length els ≤ places → Several pairs els (replicate places false) (replicate places false) 0
unfolding each fiber keep
several_start pairs els few = record {
  marks = marks_none els few;
  several = λ j l. get_or-replicate places j false false (omega arith) ∙ sym (le-ltb 1 0 (omega arith));
}

module _ {pairs : List Pair} {els : List ℕ} {seen merged : List Bool} {p : ℕ} (w : Several pairs els seen merged p) where
  pub several_end : length pairs ≤ p → (j : ℕ) → j < length els → get_or merged j false ≡ several_at els pairs j
  several_end l j i = rw (take_all p pairs l) at (w.several j i)

  module _ (l : p < length pairs) {e : ℕ} (q : e ≡ (get_or pairs p no_pair).image) where
    on : take (p + 1) pairs ≡ take p pairs ++ (get_or pairs p no_pair ∷ [])
    on = take_more pairs p no_pair l

    more : images_to pairs (p + 1) ≡ images_to pairs p ++ (e ∷ [])
    unfolding each
    more = rw (on, each_append, q)

    pub image_found : {target : Structure} → numbers_of target ≡ els → ImagesIn target pairs → Finds None e els → ⊥
    image_found {target} same named f = never (mem_has _ (numbers_of target) (named.named _ (mem_at pairs p no_pair l))) (rw (q, ← same) at f.is)

    module _ {i : ℕ} (f : Finds (Some i) e els) (up : Ascending els) (a : i < length seen) (b : i < length merged) where
      here : get_or els i 0 ≡ e
      here = rw f.is.0 (place_in e els (has_mem e els f.is.2)).1

      seen_here : get_or seen i false ≡ ltb 0 (length (fiber (take p pairs) e))
      seen_here = rw here at (w.marks.at i f.is.1) ∙ seen_keys e (take p pairs)

      pub several_next : Several pairs els (set seen i true) (set merged i (get_or seen i false)) (p + 1)
      several_next = record { marks = rw more (mark_at w.marks up f a); several = λ j l. rw on (go j l (ℕ_discrete j i)) }
        where
          go : (j : ℕ) → j < length els → Dec (j ≡ i)
              → get_or (set merged i (get_or seen i false)) j false ≡ several_at els (take p pairs ++ (get_or pairs p no_pair ∷ [])) j
          go j l (yes z) = rw (z, get_or-set_same merged i (get_or seen i false) false b, here, more_same (take p pairs) (get_or pairs p no_pair) e (sym q))
              (seen_here ∙ one_more (length (fiber (take p pairs) e)))
          go j l (no z) = get_or-set_other merged i j (get_or seen i false) false z ∙ w.several j l
              ∙ sym (ap (ltb 1) (more_other (take p pairs) (get_or pairs p no_pair) (get_or els j 0) (λ y. ⊎_elim
              (λ (c : j < i). let x = up j i c f.is.1 in omega (arith, here))
              (⊎_elim (λ (c : j ≡ i). z c) (λ (c : i < j). let x = up i j c l in omega (arith, here))) (trichotomy j i))))

-- The flags of the marks.
pub packed_merged : {mask : Mask} {merged : List Bool} {els : List ℕ} {target : Structure} {pairs : List Pair} → numbers_of target ≡ els
    → length els ≤ places → PackedLess mask merged (replicate places false) (length els)
    → ((j : ℕ) → j < length els → get_or merged j false ≡ several_at els pairs j) → Merged mask target pairs
packed_merged {mask} {merged} {els} {target} {pairs} of few p w = record { flags = rw of (record { above = p.flags.above; same = same }) }
  where
    and_not : (b : Bool) → (b && not false) ≡ b
    and_not true = refl
    and_not false = refl

    same : (j : ℕ) → j < length els → flag_at mask j ≡ several_at els pairs j
    same j l = p.flags.same j l ∙ rw (get_or-replicate places j false false (omega arith)) (and_not (get_or merged j false)) ∙ w j l

-- Images that ascend: none is flagged.
pub ascend_merged : (target : Structure) (pairs : List Pair) → images_ascend pairs ≡ true → Merged no_flags target pairs
ascend_merged target pairs a = record {
  flags = record {
    above = above_none _;
    same = λ j l. no_flag j ∙ sym (le-ltb 1 _ (fiber_one (get_or (numbers_of target) j 0) pairs a));
  };
}

-- An element without a flag has one key at most.
pub unflagged : {mask : Mask} {target : Structure} {pairs : List Pair} → Merged mask target pairs → (j : ℕ) → j < length (numbers_of target)
    → flag_at mask j ≡ false → length (fiber pairs (get_or (numbers_of target) j 0)) ≤ 1
unflagged w j l e = ltb-false 1 _ (sym (w.flags.same j l) ∙ e)

-- Without a flag there are no kernel pairs,
among_few : (ks : List ℕ) → length ks ≤ 1 → pairs_among ks ≡ []
unfolding pairs_among each
among_few [] h = refl
among_few (k ∷ []) h = refl
among_few (k ∷ l ∷ ks) h = absurd (omega arith)

joined_none : {B : Type 0} (f : ℕ → List B) (xs : List ℕ) → ((j : ℕ) → j < length xs → f (get_or xs j 0) ≡ []) → joined f xs ≡ []
unfolding joined
joined_none f [] h = refl
joined_none f (x ∷ xs) h = rw (h 0 (omega arith)) (joined_none f xs (λ j l. h (suc j) (omega arith)))

pub none_merged : {mask : Mask} {target : Structure} {pairs : List Pair} → Merged mask target pairs → none_set mask ≡ true → kernel_pairs pairs target ≡ []
unfolding kernel_pairs
none_merged {mask} {target} {pairs} w e = joined_none (λ (e : ℕ). pairs_among (fiber pairs e)) (numbers_of target)
    (λ j l. among_few _ (unflagged w j l (none_no_flag mask e j)))

-- and none of them clash.
pub no_clash : (table : List Variable) (source target : Side) (pairs : List Pair) → kernel_pairs pairs target.structure ≡ []
    → kernel_clashes table source target pairs ≡ false
unfolding kernel_clashes kernel_variables each any
no_clash table source target pairs e = rw e
