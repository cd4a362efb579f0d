-- Loops along a row of variables, and a turn of each.
use Prim.Native.Nat.{ℕ, suc, ◌+◌, ◌-◌, ◌≤◌, ◌<◌}
use native.Mathlib.Omega.{arith}
use native.Mathlib.Numerals.{add-one}
use mathlib.Core.Bool.{Bool, true, false}
use mathlib.Core.List.{List, [], ◌∷◌, ◌++◌, append_assoc, append-nil}
use mathlib.Core.Option.{none, some}
use mathlib.Core.Path.{◌≡◌, refl, sym, ◌∙◌}
use mathlib.Core.Logic.{⊎_elim}
use lib.Dec.{ltb, leb}
use Rattle.std.proofs.lemmas.Bool.Decides.{leb_tells}
use Rattle.std.proofs.lemmas.List.Recursion.{is_count_by}
use Rattle.laws.proofs.Lists.{length_each, get_d_each}
use Rattle.std.specs.Prelude as std
use Rattle.std.specs.Prelude.{Some, None, count_by}
use lib.ListN.{length, get_or, set, take, drop, replicate, length-set, drop_of_length-le, take-append-drop}
use lib.Seq.{ext_get_or, drop-cons, take-suc-set, drop-set-lt, get_or-take, length-take-le}
use borrow.Author.Tests.{lt-ltb, le-ltb}
use Rattle.definition.specs.Base.{pick, each, given}
use Rattle.definition.specs.Limits.{field_limit}
use Rattle.definition.specs.Names.{numbered}
use Rattle.laws.specs.Numbering.{fresh}
use Rattle.definition.specs.Rule.{Element}
use Rattle.rule.specs.Views.{Listed}
use Rattle.naming.specs.Variables.{no_var, row_of, taken_by, kept_by}
use Rattle.naming.proofs.Whole.{length_numbered}

-- The entries of a list's elements.
pub listed_long : {els : List Element} → Listed els → {count : ℕ} → count ≡ length els → (row : List ℕ) → field_limit ≤ length row
    → length (take count row) ≡ length els
listed_long w {count} e row h = let few = w.few in length-take-le count row (omega arith) ∙ e

-- A row is being filled, by what each element takes over: the entries before an index have their variables, behind them `no_var` stands.
pub record Numbering (taken : List (std.Option ℕ)) (next : ℕ) (vars : List ℕ) (number i : ℕ) : Type 0 where
  pub left : numbered next (each taken_by taken) ≡ take i vars ++ numbered number (each taken_by (drop i taken))
  pub tail : drop i vars ≡ replicate (field_limit - i) no_var
  pub few : number ≤ next + i
  pub long : length vars ≡ field_limit

module _ {taken : List (std.Option ℕ)} {vars : List ℕ} {next number i : ℕ} (n : Numbering taken next vars number i) (few : length taken ≤ field_limit) where
  module _ (h : i < length taken) where
    tail_on : (v : ℕ) → drop (i + 1) (set vars i v) ≡ replicate (field_limit - (i + 1)) no_var
    tail_on v =
        let a = drop-cons vars i 0 (rw n.long (omega arith)) in
        let q : field_limit - i ≡ suc (field_limit - suc i) = omega arith in
        let t = n.tail in
        let b : replicate {A = ℕ} (field_limit - i) no_var ≡ no_var ∷ replicate (field_limit - suc i) no_var = rw q refl in
        rw (add-one i, drop-set-lt (suc i) vars i v (omega arith)) cc

    pub number_some : {v : ℕ} → get_or taken i None ≡ Some v → Numbering taken next (set vars i v) number (i + 1)
    unfolding numbered each
    number_some {v} e = record {
      left = n.left ∙ rw (drop-cons taken i None h, e, add-one i, take-suc-set vars i v (rw n.long (omega arith)), append_assoc);
      tail = tail_on v;
      few = let f = n.few in omega arith;
      long = length-set vars i v ∙ n.long;
    }

    pub number_none : get_or taken i None ≡ None → Numbering taken next (set vars i number) (number + 1) (i + 1)
    unfolding numbered each
    number_none e = record {
      left = n.left ∙ rw (drop-cons taken i None h, e, add-one i, take-suc-set vars i number (rw n.long (omega arith)), append_assoc);
      tail = tail_on number;
      few = let f = n.few in omega arith;
      long = length-set vars i number ∙ n.long;
    }

  pub number_end : length taken ≡ i → vars ≡ row_of (numbered next (each taken_by taken))
  unfolding numbered row_of each
  number_end h =
      let past : drop i taken ≡ [] = drop_of_length-le taken (omega arith) in
      let e : numbered next (each taken_by taken) ≡ take i vars = n.left ∙ rw (past, append-nil) in
      let l = length_numbered next (each taken_by taken) ∙ length_each taken_by taken in
      rw (l, h, e, ← n.tail) (sym (take-append-drop i vars))

-- How many are new, by a test of each.
pub fresh_counted : (first : ℕ) (row : List ℕ) → count_by (λ v. leb first v) row ≡ fresh (each (kept_by first) row)
unfolding fresh each
fresh_counted first row =
    sym (is_count_by (λ (vs : List ℕ). fresh (each (kept_by first) vs)) (λ v. leb first v) refl
    (λ v vs. ⊎_elim (λ t. rw (t.0, le-ltb _ _ t.1)) (λ f. rw (f.0, lt-ltb _ _ f.1)) (leb_tells first v)) row)

-- Which are images, by a flag of each.
pub images_flagged : (first : ℕ) {count i : ℕ} (row : List ℕ) (flags : List Bool) → length row ≡ count → count ≤ length flags → length row ≤ i
    → ((k : ℕ) → k < i → get_or flags k false ≡ ltb (get_or row k 0) first) → take count flags ≡ each given (each (kept_by first) row)
images_flagged first {count} row flags long few over same =
    ext_get_or false (take count flags) (each given (each (kept_by first) row))
    (rw (length-take-le count flags few, length_each, length_each) (sym long)) (λ k h. at k (rw (length-take-le count flags few) at h))
  where
    whether : (v : ℕ) (b : Bool) → given (pick b (some v) none) ≡ b
    whether v true = refl
    whether v false = refl

    at : (k : ℕ) → k < count → get_or (take count flags) k false ≡ get_or (each given (each (kept_by first) row)) k false
    at k h =
        let l : k < length row = omega arith in let e : k < length (each (kept_by first) row) = rw length_each l in
        rw (get_or-take count flags k false h, get_d_each given (each (kept_by first) row) k none false e, get_d_each (kept_by first) row k 0 none l)
        (same k (omega arith) ∙ sym (whether _ _))
