-- Marks for the elements that rows list as arguments.
use Prim.Native.Nat.{ℕ, zero, suc, ◌+◌, ◌≤◌, ◌<◌}
use native.Mathlib.Omega.{arith}
use native.Mathlib.Decide.{ℕ_discrete}
use mathlib.Core.Bool.{Bool, true, false, ◌||◌, or-true, or-false}
use mathlib.Core.List.{List, [], ◌∷◌, ◌++◌, append-nil, append_assoc}
use mathlib.Core.List.Memᴰ
use mathlib.Core.Logic.{⊎_elim, inl, inr}
use mathlib.Core.Path.{◌≡◌, refl, sym, ◌∙◌}
use lib.Dec.{eqb}
use lib.ListN.{length, get_or, set, take, get_or-replicate, replicate}
use lib.Seq.{get_or-set_same, get_or-set_other, get_or-take, length-take-le, ext_get_or}
use borrow.Author.Tests.{eq-eqb, ne_eqb}
use Rattle.definition.specs.Base.{each, joined, any, has}
use Rattle.definition.specs.Letters.{predicate, function}
use Rattle.definition.specs.Names.{numbers_of}
use Rattle.definition.specs.Rule.{Structure, Element, Row}
use Rattle.definition.specs.Rows.{arguments, constrained}
use Rattle.definition.specs.Signature.{Signature, pred_of, func_of, column_count}
use Rattle.flags.specs.Flags.{places}
use Rattle.laws.specs.Sound.{SoundRow}
use Rattle.laws.proofs.Lists.{never, has_mem, length_each, get_d_each, joined_append, trichotomy}
use Rattle.laws.proofs.Numbering.{place_in}
use Rattle.records.proofs.Parts.{any_append, take_more}
use Rattle.rule.specs.Elements.{Finds}
use Rattle.rule.specs.Views.{StructureBy, Sound, listed_numbers}
use Rattle.rule.proofs.Finding.{Ascending}
use Rattle.rows.specs.Arguments.{Listed, AllListed, Marks}
use Rattle.rows.proofs.Places.{listed_many}
use Rattle.std.proofs.Common.{Some, None}

-- One more is seen.
pub has_more : (x : ℕ) (seen : List ℕ) (e : ℕ) → has x (seen ++ (e ∷ [])) ≡ (has x seen || eqb e x)
unfolding has any
has_more x seen e = any_append (λ (m : ℕ). eqb m x) seen (e ∷ []) ∙ go (eqb e x)
  where
    go : (b : Bool) → (has x seen || (b || false)) ≡ (has x seen || b)
    go true = refl
    go false = refl

has_get : (xs : List ℕ) (j : ℕ) → j < length xs → has (get_or xs j 0) xs ≡ true
unfolding has any
has_get [] j l = absurd (omega arith)
has_get (x ∷ xs) zero l = rw (eq-eqb x x refl)
has_get (x ∷ xs) (suc j) l = go (eqb x (get_or xs j 0)) (has_get xs j (omega arith))
  where
    go : (b : Bool) {c : Bool} → c ≡ true → (b || c) ≡ true
    go true e = refl
    go false e = e

-- Marks with one more seen: no element, or that at a place.
module _ {flags : List Bool} {els seen : List ℕ} (m : Marks flags els seen) {e : ℕ} where
  unmarked : (j : ℕ) → j < length els → (e ≡ get_or els j 0 → ⊥) → get_or flags j false ≡ has (get_or els j 0) (seen ++ (e ∷ []))
  unmarked j l d = m.at j l ∙ sym (has_more (get_or els j 0) seen e ∙ rw (ne_eqb e (get_or els j 0) d) (or-false (has (get_or els j 0) seen)))

  pub mark_none : Finds None e els → Marks flags els (seen ++ (e ∷ []))
  mark_none f = record { at = λ j l. unmarked j l (λ q. never (rw (← q) at (has_get els j l)) f.is) }

  pub mark_at : Ascending els → {i : ℕ} → Finds (Some i) e els → i < length flags → Marks (set flags i true) els (seen ++ (e ∷ []))
  mark_at up {i} f h = record { at = λ j l. go j l (ℕ_discrete j i) }
    where
      here : get_or els i 0 ≡ e
      here = rw f.is.0 (place_in e els (has_mem e els f.is.2)).1

      go : (j : ℕ) → j < length els → Dec (j ≡ i) → get_or (set flags i true) j false ≡ has (get_or els j 0) (seen ++ (e ∷ []))
      go j l (yes q) = rw (q, get_or-set_same flags i true false h, here, has_more e seen e, eq-eqb e e refl) (sym (or-true (has e seen)))
      go j l (no q) = get_or-set_other flags i j true false q ∙ unmarked j l (λ z. ⊎_elim
          (λ (a : j < i). let x = up j i a f.is.1 in omega (arith, here))
          (⊎_elim (λ (a : j ≡ i). q a) (λ (a : i < j). let x = up i j a l in omega (arith, here))) (trichotomy j i))

-- The loop along the elements of a list.
pub seen_more : (xs : List ℕ) (j : ℕ) → j < length xs → {e : ℕ} → e ≡ get_or xs j 0 → (seen : List ℕ)
    → seen ++ take (j + 1) xs ≡ seen ++ take j xs ++ (e ∷ [])
seen_more xs j h is seen = rw (is, take_more xs j 0 h, append_assoc)

-- Some of what is to be seen is marked, and the rest is left.
pub record Marking (flags : List Bool) (els left all : List ℕ) : Type 0 where
  pub sofar : List ℕ
  pub marks : Marks flags els sofar
  pub same : sofar ++ left ≡ all

module _ {els : List ℕ} where
  pub marking_start : {flags : List Bool} {seen left : List ℕ} → Marks flags els seen → Marking flags els left (seen ++ left)
  marking_start {seen = seen} m = record { sofar = seen; marks = m; same = refl }

  module _ {flags : List Bool} {all : List ℕ} (sig : Signature) {rows : List Row} (m : Marking flags els (joined (arguments sig) rows) all) where
    pub marking_next : {r : Row} {rest : List Row} {flags' : List Bool} {es : List ℕ} → rows ≡ r ∷ rest → es ≡ arguments sig r
        → ((seen : List ℕ) → Marks flags els seen → Marks flags' els (seen ++ es)) → Marking flags' els (joined (arguments sig) rest) all
    unfolding joined
    marking_next {r} {rest} {es = es} e q g = record {
      sofar = m.sofar ++ es;
      marks = g m.sofar m.marks;
      same = rw (append_assoc, q) (rw e at m.same);
    }

    pub marking_end : rows ≡ [] → Marks flags els all
    unfolding joined
    marking_end e = let same : m.sofar ≡ all = sym (append-nil m.sofar) ∙ rw e at m.same in rw same at m.marks

-- Rows of a structure list at least their parents.
module _ {x : StructureBy} (w : Sound x) where
  pub preds_listed : AllListed x.sig x.structure.pred_rows
  preds_listed = record { each_listed = λ r i. listed r (w.sound.preds_sound r i) }
    where
      listed : (r : Row) → (r.kind ≡ predicate) × SoundRow (length x.sig.preds) (λ (p : ℕ). column_count (pred_of x.sig p)) (numbers_of x.structure) r
          → Listed x.sig r
      listed r q = record { kind = inl q.0; named = rw q.0 q.1.symbol_in; parents = rw q.0 (omega (arith, q.1.columns_count)) }

  pub funcs_listed : AllListed x.sig x.structure.func_rows
  funcs_listed = record { each_listed = λ r i. listed r (w.sound.funcs_sound r i) }
    where
      listed : (r : Row)
          → (r.kind ≡ function) × (0 < length r.elements)
          × SoundRow (length x.sig.funcs) (λ (f : ℕ). column_count (func_of x.sig f)) (numbers_of x.structure) r → Listed x.sig r
      listed r q = record { kind = inr q.0; named = rw q.0 q.2.symbol_in; parents = rw q.0 (omega (arith, q.2.columns_count)) }

pub listed_first : {sig : Signature} {rows rest : List Row} {r : Row} → AllListed sig rows → rows ≡ r ∷ rest → Listed sig r × AllListed sig rest
listed_first {r = r} w e = let v = rw e at w in (v.each_listed r (Memᴰ.head refl), record { each_listed = λ q i. v.each_listed q (Memᴰ.tail i) })

-- No marks at first, and what they say at the end.
pub marks_none : (els : List ℕ) → length els ≤ places → Marks (replicate places false) els []
unfolding has any
marks_none els few = record { at = λ j l. get_or-replicate places j false false (omega arith) }

marks_say : {flags : List Bool} {els seen : List ℕ} → Marks flags els seen → length els ≤ length flags → (f : ℕ → Bool) → ((e : ℕ) → f e ≡ has e seen)
    → take (length els) flags ≡ each f els
marks_say {flags} {els} {seen} m h f g =
    let a : length (take (length els) flags) ≡ length els = length-take-le (length els) flags h in
    let b : length (each f els) ≡ length els = length_each f els in
    ext_get_or false (take (length els) flags) (each f els) (a ∙ sym b) (λ j l. get_or-take (length els) flags j false (omega arith) ∙ m.at j (omega arith)
    ∙ sym (get_d_each f els j 0 false (omega arith) ∙ g (get_or els j 0)))

pub constrained_say : {flags : List Bool} (sig : Signature) (st : Structure) (els : List Element) {preds funcs : List Row}
    → numbers_of st ≡ listed_numbers els → st.pred_rows ≡ preds → st.func_rows ≡ funcs
    → Marks flags (listed_numbers els) (([] ++ joined (arguments sig) preds) ++ joined (arguments sig) funcs)
    → length (listed_numbers els) ≤ length flags → take (length els) flags ≡ each (constrained sig st) (numbers_of st)
unfolding constrained
constrained_say sig st els of p f m h = rw (of, ← listed_many els) (marks_say m h (constrained sig st) (λ e. rw (p, f, joined_append)))
