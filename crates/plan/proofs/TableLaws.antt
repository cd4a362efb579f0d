-- A table of kinds: without any, and with the kind of a pair added.
use Prim.Native.Nat.{ℕ, ◌<◌}
use native.Mathlib.Omega.{arith}
use native.Mathlib.Decide.{ℕ_discrete}
use mathlib.Core.Bool.{Bool, true, false, and-false}
use mathlib.Core.List.{List, []}
use mathlib.Core.Option as option
use mathlib.Core.Option.{none, some}
use mathlib.Core.Path.{◌≡◌, refl, sym, ◌∙◌}
use lib.Dec.{eqb}
use lib.ListN.{length, get_or, set, replicate, length-set, length-replicate, get_or-replicate}
use lib.Seq.{get_or-set_same, get_or-set_other}
use borrow.Author.Tests.{eq-eqb, ne_eqb, eqb-true}
use Rattle.std.specs.Prelude.{Some, None, is_some}
use Rattle.definition.specs.Base.{pick, or_else, first_of}
use Rattle.definition.specs.Limits.{structure_limit}
use Rattle.definition.specs.Rule.{Kind, MorphismKind}
use Rattle.definition.specs.Walk.{of_pair, add_pair}
use Rattle.laws.proofs.KindTable.{added_at}
use Rattle.laws.proofs.Choices.{or_none}
use Rattle.laws.proofs.Lists.{and_left, and_right, never}
use Rattle.laws.specs.KindTable.{kind_at}
use Rattle.rule.specs.Lookup.{kind_is}
use Rattle.rule.specs.Tail.{kind_from}
use Rattle.rule.specs.declared.tail.KindField.{KindField}
use Rattle.plan.specs.Table.{Entry, Entries, kind_in, entry_at, Tabled, Adds}

-- An entry has a kind or none.
kind_some : (e : Entry) → is_some e ≡ true → (k : MorphismKind) × (kind_in e ≡ some k)
kind_some (Some k) h = (kind_is k, refl)
kind_some None h = never h refl

kind_none : (e : Entry) → is_some e ≡ false → kind_in e ≡ none
kind_none (Some k) h = never refl h
kind_none None h = refl

-- The table that `kind_table` is lent: no pair has a kind.
abbrev pub empty_row : List Entry
empty_row = replicate structure_limit None

abbrev pub empty_table : Entries
empty_table = replicate structure_limit empty_row

pub empty_table_lem : Tabled empty_table []
unfolding kind_at first_of
empty_table_lem = record {
  long = length-replicate structure_limit empty_row;
  wide = λ source h. rw (get_or-replicate structure_limit source empty_row [] h) (length-replicate {A = Entry} structure_limit None);
  same = λ source target h l.
      rw (get_or-replicate structure_limit source empty_row [] h, get_or-replicate {A = Entry} structure_limit target None None l);
}

clash : {A B : Type 0} (x : A) → some x ≡ none → B
clash x e = let z : ◌≡◌ {A = ℕ} 0 1 = cc in absurd (omega arith)

-- The table of the same kinds by another list.
pub tabled_as : {table : Entries} {ks js : List Kind} → Tabled table ks
    → ((source target : ℕ) → kind_at js source target ≡ kind_at ks source target) → Tabled table js
tabled_as w e = record { long = w.long; wide = w.wide; same = λ source target h l. w.same source target h l ∙ sym (e source target) }

-- The kind of a pair is added to a table of some kinds.
module _ {table : Entries} {ks : List Kind} (w : Tabled table ks) (n : KindField) (source_in : n.source < structure_limit)
    (target_in : n.target < structure_limit) where
  abbrev source : ℕ
  source = n.source

  abbrev target : ℕ
  target = n.target

  abbrev k : Kind
  k = kind_from n

  -- The pair has a kind.
  kept : is_some (entry_at table n.source n.target) ≡ true → Tabled table (add_pair ks (kind_from n))
  kept h = tabled_as w (λ i j. added_at ks k i j ∙ go i j (kind_at ks i j) refl (of_pair i j k) refl)
    where
      go : (i j : ℕ) (o : option.Option MorphismKind) → kind_at ks i j ≡ o → (c : Bool) → of_pair i j k ≡ c → or_else o (pick c (some k.kind) none) ≡ o
      go i j (some x) e c f = refl
      go i j none e false f = refl
      go i j none e true f =
          let a : source ≡ i = eqb-true _ _ (and_left _ _ f) in
          let b : target ≡ j = eqb-true _ _ (and_right (eqb source i) _ f) in
          let z : kind_at ks source target ≡ none = rw (a, b) e in
          let x = kind_some (entry_at table source target) h in
          clash x.0 (sym x.1 ∙ w.same source target source_in target_in ∙ z)

  -- The pair has none yet.
  module _ (free : is_some (entry_at table n.source n.target) ≡ false) where
    abbrev row : List Entry
    row = set (get_or table source []) target (Some n.kind)

    abbrev more : Entries
    more = set table source row

    row_here : get_or more source [] ≡ row
    row_here = get_or-set_same table source row [] (omega (arith, w.long))

    row_there : (i : ℕ) → (i ≡ source → ⊥) → get_or more i [] ≡ get_or table i []
    row_there i e = get_or-set_other table source i row [] e

    wide : (i : ℕ) → i < structure_limit → Dec (i ≡ source) → length (get_or more i []) ≡ structure_limit
    wide i h (yes e) = rw (e, row_here) (length-set (get_or table source []) target (Some n.kind) ∙ w.wide source source_in)
    wide i h (no e) = rw (row_there i e) (w.wide i h)

    here : kind_at (add_pair ks k) source target ≡ some k.kind
    here =
        let f : kind_at ks source target ≡ none = sym (w.same source target source_in target_in) ∙ kind_none (entry_at table source target) free in
        added_at ks k source target ∙ rw (f, eq-eqb source source refl, eq-eqb target target refl)

    there : (i j : ℕ) → of_pair i j k ≡ false → kind_at (add_pair ks k) i j ≡ kind_at ks i j
    there i j f = added_at ks k i j ∙ rw f (or_none (kind_at ks i j))

    same : (i j : ℕ) → i < structure_limit → j < structure_limit → Dec (i ≡ source) → Dec (j ≡ target)
        → kind_in (entry_at more i j) ≡ kind_at (add_pair ks k) i j
    same i j a b (yes e) (yes f) =
        rw (e, f, row_here, get_or-set_same (get_or table source []) target (Some n.kind) None (omega (arith, w.wide source source_in))) (sym here)
    same i j a b (yes e) (no f) =
        let x : of_pair i j k ≡ false = rw (ne_eqb target j (λ z. f (sym z))) (and-false (eqb source i)) in
        let y : entry_at more i j ≡ entry_at table i j = rw (e, row_here) (get_or-set_other (get_or table source []) target j (Some n.kind) None f) in
        rw y (w.same i j a b ∙ sym (there i j x))
    same i j a b (no e) f =
        let x : of_pair i j k ≡ false = rw (ne_eqb source i (λ z. e (sym z))) in
        rw (row_there i e) (w.same i j a b ∙ sym (there i j x))

    grown : Tabled (set table n.source (set (get_or table n.source []) n.target (Some n.kind))) (add_pair ks (kind_from n))
    grown = record {
      long = length-set table source row ∙ w.long;
      wide = λ i h. wide i h (ℕ_discrete i source);
      same = λ i j a b. same i j a b (ℕ_discrete i source) (ℕ_discrete j target);
    }

-- As `add` does it.
module _ {table : Entries} (n : KindField) (source_in : n.source < structure_limit) (target_in : n.target < structure_limit) where
  pub adds_none : is_some (entry_at table n.source n.target) ≡ true → Adds table table (kind_from n)
  adds_none h = record { tabled = λ ks w. kept w n source_in target_in h }

  pub adds_one : is_some (entry_at table n.source n.target) ≡ false
      → Adds table (set table n.source (set (get_or table n.source []) n.target (Some n.kind))) (kind_from n)
  adds_one h = record { tabled = λ ks w. grown w n source_in target_in h }
