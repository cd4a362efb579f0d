-- The check of a section: the fields of one letter from a position on, whatever a field's check is.
use Prim.Native.Nat.{ℕ, ◌+◌, ◌-◌, ◌≤◌, ◌<◌}
use mathlib.Core.List.{List, [], ◌∷◌, ◌++◌, append_assoc, append-nil}
use mathlib.Core.Option.{Option, none, some}
use mathlib.Core.Path.{◌≡◌, refl, sym, ◌∙◌}
use lib.ListN.{length, length-append}
use borrow.Author.Tests.{eq-eqb, ne_eqb}
use Rattle.definition.specs.Records.{Field, fault_from}
use Rattle.records.specs.Places.{field_at, field_of, stretch, Run, none, got}
use Rattle.records.specs.Iter.{fields_in}
use Rattle.records.proofs.FieldsIn.{run_fields}
use Rattle.std.proofs.Common.{Err}
use Rattle.records.proofs.Runs.{Behind, run_got, run_snoc}
use Rattle.group.specs.Sections.{leading, trailing}
use Rattle.records.specs.Refusals.{number}
use Rattle.records.specs.declared.refusal.Refusal.{Refusal}
use Rattle.group.specs.Answers.{Section, counted}

-- The check stands at a position, behind so many fields of the letter: what is left gives the answer.
pub record Along (s : List ℕ) (from end letter : ℕ) (check : ℕ → Option Field → Field → Option ℕ) (fs : List Field) (at count : ℕ) : Type 0 where
  pub done : List Field
  pub rest : List Field
  pub last : Option Field
  pub passed : Run s from at done
  pub run : Run s at end rest
  pub front : leading letter fs ≡ done ++ leading letter rest
  pub back : trailing letter fs ≡ trailing letter rest
  pub counted : length done ≡ count
  pub fault : fault_from check 0 none (leading letter fs) ≡ fault_from check count last (leading letter rest)

unfoldable pub along_start : {s : List ℕ} {from end letter : ℕ} {check : ℕ → Option Field → Field → Option ℕ} {fs : List Field} → Run s from end fs
    → Along s from end letter check fs from 0
along_start {fs = fs} r = record { done = []; rest = fs; last = none; passed = none; run = r; front = refl; back = refl; counted = refl; fault = refl }

module _ {s : List ℕ} {from end letter : ℕ} {check : ℕ → Option Field → Field → Option ℕ} {fs : List Field} {at count : ℕ}
    (w : Along s from end letter check fs at count) where
  -- Nothing of the letter is left: the section ends here.
  pub record Over : Type 0 where
    pub front_over : leading letter w.rest ≡ []
    pub back_over : trailing letter w.rest ≡ w.rest

  pub over_done : end ≤ length s → fields_in (stretch s at (end - at)) ≡ [] → Over
  unfolding leading trailing
  over_done h n = let e : w.rest ≡ [] = sym (run_fields w.run h) ∙ n in record { front_over = rw e; back_over = rw e }

  pub over_stop : at < end → {l start len next : ℕ} → field_at s at ≡ got l start len next → (l ≡ letter → ⊥) → Over
  unfolding leading trailing
  over_stop lt {l} e q =
      let b = run_got w.run lt e in
      record { front_over = rw (b.same, ne_eqb l letter q); back_over = rw (b.same, ne_eqb l letter q) }

  pub over_front : Over → leading letter fs ≡ w.done
  over_front v = w.front ∙ rw (v.front_over, append-nil)

  pub along_over : Over → Section (counted count at) s from end letter check fs
  unfolding fault_from
  along_over v = record
      { is = (w.fault ∙ rw v.front_over, rw (over_front v) w.counted, rw (over_front v) w.passed, rw (w.back ∙ v.back_over) w.run) }

  module _ (lt : at < end) where
    module _ {start len next : ℕ} (e : field_at s at ≡ got letter start len next) where
      -- The first of what is left is of the letter.
      pub first : (b : Behind s end letter start len next w.rest) → leading letter w.rest ≡ field_of s letter start len ∷ leading letter b.rest
      unfolding leading
      first b = rw (b.same, eq-eqb letter letter refl)

      pub first_back : (b : Behind s end letter start len next w.rest) → trailing letter w.rest ≡ trailing letter b.rest
      unfolding trailing
      first_back b = rw (b.same, eq-eqb letter letter refl)

      pub along_fault : {n : Refusal} → ((last : Option Field) → some (number n) ≡ check count last (field_of s letter start len))
          → Section (Err n) s from end letter check fs
      unfolding fault_from
      along_fault k = record { is = w.fault ∙ rw (first (run_got w.run lt e), ← (k w.last)) }

      unfoldable pub along_next : ((last : Option Field) → none ≡ check count last (field_of s letter start len))
          → Along s from end letter check fs next (count + 1)
      unfolding fault_from
      along_next k =
          let b = run_got w.run lt e in
          let f = first b in
          record {
            done = w.done ++ (field_of s letter start len ∷ []);
            rest = b.rest;
            last = some (field_of s letter start len);
            passed = run_snoc w.passed e;
            run = b.run;
            front = w.front ∙ rw (f, append_assoc);
            back = w.back ∙ first_back b;
            counted = length-append w.done (field_of s letter start len ∷ []) ∙ rw w.counted;
            fault = w.fault ∙ rw (f, ← (k w.last));
          }
