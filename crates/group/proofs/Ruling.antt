-- The rules and their entries in the index.
use Prim.Native.Nat.{ℕ, zero, suc, ◌+◌, ◌≤◌, ◌<◌}
use native.Mathlib.Omega.{arith}
use native.Mathlib.Nat.{zero-add}
use native.Mathlib.Decide.{ℕ_discrete}
use mathlib.Core.List.{List, [], ◌∷◌, ◌++◌, append_assoc, append-nil}
use mathlib.Core.Option.{Option, none, some}
use mathlib.Core.Path.{◌≡◌, refl, sym, ◌∙◌, ap}
use lib.ListN.{length, get_or, set, length-set, length-append, get_or-append}
use lib.Seq.{get_or-set_same, get_or-set_other, get_or_at}
use Rattle.definition.specs.Base.{or_else}
use Rattle.definition.specs.Letters.{letter_u, letter_b, letter_h}
use Rattle.definition.specs.Limits.{rule_limit}
use Rattle.definition.specs.Records.{Field, Block, blocks, fault_among}
use Rattle.definition.specs.Signature.{Signature}
use Rattle.definition.specs.Group.{premise_kinds, conclusion_kinds, flat_rule_fault, statement_fault, flat_rules_fault}
use Rattle.definition.specs.Scope.{conclusion_at}
use Rattle.records.specs.Places.{Run, none}
use Rattle.records.proofs.Runs.{run_end}
use Rattle.group.specs.Sections.{AtRule, block_fault}
use Rattle.group.specs.Index.{rules_from, conclusions_from, index_size, rule_at, conclusions_at, rule_end, RuleAt, RuleSound, FirstConclusion, no_block}
use Rattle.records.specs.declared.refusal.Refusal.{Refusal}
use Rattle.std.proofs.Common.{Err}
use Rattle.group.specs.Answers.{Rule, RuleRead, rule_of, AllRules, Kept, counted, ruled}

-- The faults of the first rule come before those of the others.
module _ (sig : Signature) (variables before : ℕ) (b : Block) (bs : List Block) where
  first_rule : flat_rules_fault sig variables before (b ∷ bs) ≡ or_else (block_fault sig variables before b) (flat_rules_fault sig variables (before + 1) bs)
  unfolding flat_rules_fault block_fault
  first_rule = go (flat_rule_fault before b.head) (fault_among letter_b (statement_fault sig premise_kinds variables) b.body)
      (fault_among letter_h (statement_fault sig conclusion_kinds variables) b.body) (flat_rules_fault sig variables (before + 1) bs)
    where
      go : (w x y z : Option ℕ) → or_else w (or_else x (or_else y z)) ≡ or_else (or_else w (or_else x y)) z
      go (some n) x y z = refl
      go none (some n) y z = refl
      go none none y z = refl

-- The entries so far: each rule ends where the next one starts, the last one at a position.
pub record Entered (index₀ index : List ℕ) (at count : ℕ) : Type 0 where
  pub size : length index ≡ index_size
  pub few : count ≤ rule_limit
  pub kept : Kept index₀ index
  pub here : get_or index (rules_from + count) 0 ≡ at

-- The first entry is where the rules start.
pub entered_start : (index : List ℕ) (from : ℕ) → length index ≡ index_size → Entered (set index rules_from from) (set index rules_from from) from 0
entered_start index from l = record {
  size = length-set index rules_from from ∙ l;
  few = omega arith;
  kept = record { long = refl; same = λ i h. refl };
  here = get_or-set_same index rules_from from 0 (omega arith);
}

-- One rule more: where its conclusions start, and where it ends.
abbrev pub entered : List ℕ → ℕ → ℕ → ℕ → List ℕ
entered index count conclusions next = set (set index (conclusions_from + count) conclusions) (rules_from + count + 1) next

module _ {index₀ index : List ℕ} {at count : ℕ} (w : Entered index₀ index at count) (few : count < rule_limit) (conclusions next : ℕ) where
  -- Entries other than the two new ones.
  other : (i : ℕ) → (conclusions_from + count ≡ i → ⊥) → (rules_from + count + 1 ≡ i → ⊥) → get_or (entered index count conclusions next) i 0 ≡ get_or index i 0
  other i p q = get_or-set_other (set index (conclusions_from + count) conclusions) (rules_from + count + 1) i next 0 (λ e. q (omega arith))
      ∙ get_or-set_other index (conclusions_from + count) i conclusions 0 (λ e. p (omega arith))

  new_end : rule_end (entered index count conclusions next) count ≡ next
  new_end = get_or-set_same (set index (conclusions_from + count) conclusions) (rules_from + count + 1) next 0 (rw length-set (omega (arith, w.size)))

  new_conclusions : conclusions_at (entered index count conclusions next) count ≡ conclusions
  new_conclusions =
      get_or-set_other (set index (conclusions_from + count) conclusions) (rules_from + count + 1) (conclusions_from + count) next 0 (λ e. omega arith)
      ∙ get_or-set_same index (conclusions_from + count) conclusions 0 (omega (arith, w.size))

  new_rule : rule_at (entered index count conclusions next) count ≡ at
  new_rule = other (rules_from + count) (λ e. omega arith) (λ e. omega arith) ∙ w.here

  pub entered_next : Entered index₀ (entered index count conclusions next) next (count + 1)
  entered_next =
      let e : rules_from + (count + 1) ≡ rules_from + count + 1 = omega arith in
      record {
        size = rw (length-set, length-set) w.size;
        few = omega arith;
        kept = record {
          long = rw (length-set, length-set) w.kept.long;
          same = λ i h. other i (λ q. omega arith) (λ q. omega arith) ∙ w.kept.same i h;
        };
        here = rw e new_end;
      }

  module _ {s : List ℕ} where
    -- The rules entered before stay as they were.
    rule_kept : {k : ℕ} {b : Block} → k < count → RuleAt s index k b → RuleAt s (entered index count conclusions next) k b
    rule_kept {k} h r =
        let a : rule_at (entered index count conclusions next) k ≡ rule_at index k = other (rules_from + k) (λ e. omega arith) (λ e. omega arith) in
        let c : conclusions_at (entered index count conclusions next) k ≡ conclusions_at index k =
        other (conclusions_from + k) (λ e. omega arith) (λ e. omega arith) in
        let e : rule_end (entered index count conclusions next) k ≡ rule_end index k = other (rules_from + k + 1) (λ e. omega arith) (λ e. omega arith) in
        record {
          head = rw a r.head;
          within = rw a r.within;
          premise = rw (a, c) r.premise;
          conclusion = rw (c, e) r.conclusion;
        }

    rule_new : {sig : Signature} {variables end : ℕ} {f : Field} {fs : List Field} → RuleRead sig variables s at conclusions next end f fs
        → RuleAt s (entered index count conclusions next) count (rule_of f fs)
    rule_new r = record {
      head = rw new_rule r.head;
      within = rw new_rule r.within;
      premise = rw (new_rule, new_conclusions) r.premise;
      conclusion = rw (new_conclusions, new_end) r.conclusion;
    }

-- What holds of each member and of one more behind them.
each_snoc : {A : Type 0} (P : ℕ → A → Type 0) (xs : List A) (x d : A) {count : ℕ} → length xs ≡ count → ((k : ℕ) → k < count → P k (get_or xs k d)) → P count x
    → (k : ℕ) → k < count + 1 → P k (get_or (xs ++ (x ∷ [])) k d)
each_snoc P xs x d {count} l h p k q = go (ℕ_discrete k count)
  where
    go : Dec (k ≡ count) → P k (get_or (xs ++ (x ∷ [])) k d)
    go (yes e) = rw (e, get_or_at xs x [] d count l) p
    go (no n) =
        let m : k < count = omega (arith, n) in
        rw (get_or-append xs (x ∷ []) d k (rw l m)) (h k m)

-- The check of the rules stands at a position, behind so many rules: what is left gives the answer.
pub record Ruling (sig : Signature) (variables : ℕ) (s index : List ℕ) (from end : ℕ) (fs : List Field) (at count : ℕ) : Type 0 where
  pub done : List Block
  pub rest : List Field
  pub run : Run s at end rest
  pub order : AtRule rest
  pub split : blocks letter_u fs ≡ done ++ blocks letter_u rest
  pub counted : length done ≡ count
  pub fault : flat_rules_fault sig variables 0 (blocks letter_u fs) ≡ flat_rules_fault sig variables count (blocks letter_u rest)
  pub each : (k : ℕ) → k < count → RuleAt s index k (get_or done k no_block)
  pub sound : (k : ℕ) → k < count → RuleSound sig variables (get_or done k no_block)
  pub places : (r : ℕ) → conclusion_at (count + suc r) fs from ≡ conclusion_at (suc r) rest at
  pub first : (k : ℕ) → k < count → FirstConclusion index fs from k (get_or done k no_block)

pub ruling_start : {sig : Signature} {variables : ℕ} {s index : List ℕ} {end from : ℕ} {fs : List Field} → Run s from end fs → AtRule fs
    → Ruling sig variables s index from end fs from 0
ruling_start {fs = fs} r o =
    record {
      done = [];
      rest = fs;
      run = r;
      order = o;
      split = refl;
      counted = refl;
      fault = refl;
      each = λ k h. absurd (omega arith);
      sound =
          λ k h. absurd (omega arith);
      places = λ r. rw zero-add;
      first = λ k h. absurd (omega arith);
    }

-- What is left begins with a rule.
record Begins (s : List ℕ) (at end : ℕ) (rest : List Field) : Type 0 where
  head : Field
  tail : List Field
  same : rest ≡ head ∷ tail
  run : Run s at end (head ∷ tail)
  order : AtRule (head ∷ tail)
  first : blocks letter_u rest ≡ rule_of head tail ∷ blocks letter_u tail

begins : {s : List ℕ} {at end : ℕ} (rest : List Field) → at < end → Run s at end rest → AtRule rest → Begins s at end rest
unfolding blocks
begins [] lt none o = absurd (omega arith)
begins (f ∷ fs) lt r o = record { head = f; tail = fs; same = refl; run = r; order = o; first = rw o.0 }

module _ {sig : Signature} {variables : ℕ} {s index : List ℕ} {from end : ℕ} {fs : List Field} {at count : ℕ}
    (w : Ruling sig variables s index from end fs at count) where
  pub ruling_end : count ≤ rule_limit → end ≤ at → AllRules (counted count at) sig variables s index from fs
  unfolding blocks flat_rules_fault
  ruling_end few h =
      let e = run_end w.run h in
      let b : blocks letter_u fs ≡ w.done = w.split ∙ rw (e, append-nil) in
      record { is = (w.fault ∙ rw e, record { few = few; counted = rw b w.counted; each = rw b w.each }, rw b w.sound, rw b w.first) }

  module _ (lt : at < end) where
    here : Begins s at end w.rest
    here = begins w.rest lt w.run w.order

    pub ruling_fault : {n : Refusal}
        → ((f : Field) (gs : List Field) → Run s at end (f ∷ gs) → AtRule (f ∷ gs) → Rule (Err n) sig variables count s at end f gs)
        → AllRules (Err n) sig variables s index from fs
    ruling_fault q =
        let b = here in
        record {
          is = w.fault
              ∙ rw (
                b.first,
                first_rule sig variables count (rule_of b.head b.tail) (blocks letter_u b.tail),
                (q b.head b.tail b.run b.order).is,
              );
        }

    pub ruling_next : {index₀ : List ℕ} {conclusions next : ℕ} → Entered index₀ index at count → count < rule_limit
        → ((f : Field) (gs : List Field) → Run s at end (f ∷ gs) → AtRule (f ∷ gs) → Rule (ruled conclusions next) sig variables count s at end f gs)
        → Ruling sig variables s (entered index count conclusions next) from end fs next (count + 1)
    ruling_next {index₀} {conclusions} {next} v few q =
        let b = here in
        let r = (q b.head b.tail b.run b.order).is in
        let e : blocks letter_u w.rest ≡ rule_of b.head b.tail ∷ blocks letter_u r.1.rest = b.first ∙ rw r.1.others in
        record {
          done = w.done ++ (rule_of b.head b.tail ∷ []);
          rest = r.1.rest;
          run = r.1.run;
          order = r.1.order;
          split = w.split ∙ rw (e, append_assoc);
          counted = length-append w.done (rule_of b.head b.tail ∷ []) ∙ rw w.counted;
          fault = w.fault ∙ rw (e, first_rule sig variables count (rule_of b.head b.tail) (blocks letter_u r.1.rest), r.0);
          each = each_snoc (RuleAt s (entered index count conclusions next)) w.done (rule_of b.head b.tail) no_block w.counted
              (λ k h. rule_kept v few conclusions next h (w.each k h)) (rule_new v few conclusions next r.1);
          sound = each_snoc (λ (k : ℕ) (a : Block). RuleSound sig variables a) w.done (rule_of b.head b.tail) no_block w.counted w.sound
              r.1.sound;
          places = λ j. steps j r.1.rest (ap (λ (gs : List Field). conclusion_at (suc (suc j)) gs at) b.same ∙ r.1.passed j);
          first = each_snoc (FirstConclusion (entered index count conclusions next) fs from) w.done (rule_of b.head b.tail) no_block w.counted
              (λ k h m. w.first k h m ∙ sym (other v few conclusions next (conclusions_from + k) (λ q. omega arith) (λ q. omega arith)))
              (λ m. w.places zero ∙ ap (λ (gs : List Field). conclusion_at (suc zero) gs at) b.same ∙ r.1.first m
              ∙ sym (new_conclusions v few conclusions next));
        }
      where
        steps : (j : ℕ) (rest : List Field) → conclusion_at (suc (suc j)) w.rest at ≡ conclusion_at (suc j) rest next
            → conclusion_at (count + 1 + suc j) fs from ≡ conclusion_at (suc j) rest next
        steps j rest e = let q : count + 1 + suc j ≡ count + suc (suc j) = omega arith in rw q (w.places (suc j) ∙ e)
