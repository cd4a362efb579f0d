-- A rule among the fields of a group: its U field, its B fields, its H fields.
use Prim.Native.Nat.{ℕ, zero, suc, ◌+◌, ◌<◌}
use native.Mathlib.Omega.{arith}
use mathlib.Core.List.{List, [], ◌∷◌, ◌++◌, append-nil}
use mathlib.Core.Option.{Option, none, some}
use mathlib.Core.Path.{◌≡◌, refl, sym, ◌∙◌, ap}
use borrow.Author.Tests.{leb-false}
use Rattle.definition.specs.Base.{or_else}
use Rattle.definition.specs.Letters.{letter_u, letter_b, letter_h}
use Rattle.definition.specs.Limits.{rule_limit}
use Rattle.definition.specs.Records.{Field, with_letter, up_to, blocks, fault_from, fault_among}
use Rattle.definition.specs.Signature.{Signature}
use Rattle.definition.specs.Group.{group_grammar, premise_kinds, conclusion_kinds, flat_rule_fault, statement_fault}
use Rattle.definition.specs.Scope.{conclusion_at}
use Rattle.laws.proofs.Lists.{lowest_none}
use Rattle.records.specs.Places.{two_at, field_at, field_of, Run, got}
use Rattle.records.proofs.Link.{got_is}
use Rattle.records.proofs.Index.{got_field}
use Rattle.records.proofs.Lists.{keep_append}
use Rattle.group.specs.Sections.{leading, trailing, Ordered, AtRule, Stated, kinds_of, block_fault}
use Rattle.records.specs.Refusals.{number}
use Rattle.records.specs.declared.refusal.Refusal.{Refusal}
use Rattle.std.proofs.Common.{Err}
use Rattle.group.specs.Answers.{Section, Rule, counted, ruled}
use Rattle.group.proofs.First.{run_cons}
use Rattle.group.proofs.Positions.{passed_over, begun, found}
use Rattle.group.proofs.Shape.{after_premises, after_conclusions}
use Rattle.group.proofs.Leading.{split, with_same, with_other, upto_leading, blocks_leading}

-- Where a rule comes next, nothing is left of the one before.
upto_rule : (fs : List Field) → AtRule fs → up_to letter_u fs ≡ []
unfolding up_to
upto_rule [] o = refl
upto_rule (f ∷ fs) o = rw o.0

-- Behind a U: its B fields, its H fields, and the next rule.
module _ (fs : List Field) (o : Ordered group_grammar letter_u fs) where
  abbrev bs : List Field
  bs = leading letter_b fs

  abbrev mid : List Field
  mid = trailing letter_b fs

  abbrev hs : List Field
  hs = leading letter_h mid

  abbrev pub rest_of : List Field
  rest_of = trailing letter_h mid

  pub rest_order : AtRule rest_of
  rest_order = after_conclusions mid (after_premises fs o)

  cut : fs ≡ bs ++ (hs ++ rest_of)
  cut = split letter_b fs ∙ ap (λ (gs : List Field). bs ++ gs) (split letter_h mid)

  body_is : up_to letter_u fs ≡ bs ++ hs
  body_is = ap (up_to letter_u) cut
      ∙ rw (
        upto_leading letter_b letter_u (λ q. omega arith) fs (hs ++ rest_of),
        upto_leading letter_h letter_u (λ q. omega arith) mid rest_of,
        upto_rule rest_of rest_order,
        append-nil,
      )

  pub premises_are : with_letter letter_b (up_to letter_u fs) ≡ leading letter_b fs
  unfolding with_letter
  premises_are = rw (body_is, keep_append) (rw (with_same letter_b fs, with_other letter_h letter_b (λ q. omega arith) mid, append-nil) refl)

  pub conclusions_are : with_letter letter_h (up_to letter_u fs) ≡ leading letter_h (trailing letter_b fs)
  unfolding with_letter
  conclusions_are = rw (body_is, keep_append) (rw (with_other letter_b letter_h (λ q. omega arith) fs, with_same letter_h mid) refl)

  pub others_are : blocks letter_u fs ≡ blocks letter_u rest_of
  others_are = ap (blocks letter_u) cut
      ∙ rw (blocks_leading letter_b letter_u (λ q. omega arith) fs (hs ++ rest_of), blocks_leading letter_h letter_u (λ q. omega arith) mid rest_of)

-- Of two faults there is none.
pub or_else_none : (a b : Option ℕ) → or_else a b ≡ none → (a ≡ none) × (b ≡ none)
or_else_none none b e = (refl, e)
or_else_none (some n) b e = let z : ◌≡◌ {A = ℕ} 0 1 = cc in absurd (omega arith)

-- Fields without a fault.
pub stated : (sig : Signature) (letter variables before : ℕ) (last : Option Field) (fs : List Field)
    → fault_from (statement_fault sig (kinds_of letter) variables) before last fs ≡ none → Stated sig letter variables fs
unfolding fault_from statement_fault
stated sig letter variables before last [] e = tt
stated sig letter variables before last (f ∷ fs) e =
    let q = or_else_none (statement_fault sig (kinds_of letter) variables before last f) _ e in
    (q.0, stated sig letter variables (before + 1) (some f) fs q.1)

-- A U field without a fault stands behind fewer than the limit.
pub rule_few : (before : ℕ) (f : Field) → none ≡ flat_rule_fault before f → before < rule_limit
unfolding flat_rule_fault
rule_few before f e = leb-false _ _ (lowest_none 4 _ _ (sym e)).0

-- The check of a rule from its U field on.
module _ (sig : Signature) (variables before : ℕ) {s : List ℕ} {at end : ℕ} {f : Field} {fs : List Field} (r : Run s at end (f ∷ fs)) (o : AtRule (f ∷ fs))
    {l start len next : ℕ} (e : field_at s at ≡ got l start len next) where
  -- The checks of the two sections, as the definition has them.
  premise_check : fault_among letter_b (statement_fault sig premise_kinds variables) (up_to letter_u fs)
      ≡ fault_from (statement_fault sig (kinds_of letter_b) variables) 0 none (leading letter_b fs)
  unfolding fault_among
  premise_check = rw (premises_are fs o.1)

  conclusion_check : fault_among letter_h (statement_fault sig conclusion_kinds variables) (up_to letter_u fs)
      ≡ fault_from (statement_fault sig (kinds_of letter_h) variables) 0 none (leading letter_h (trailing letter_b fs))
  unfolding fault_among
  conclusion_check = rw (conclusions_are fs o.1)

  pub rule_fault : {n : Refusal} → ((letter : ℕ) → some (number n) ≡ flat_rule_fault before (field_of s letter start len))
      → Rule (Err n) sig variables before s at end f fs
  unfolding block_fault
  rule_fault k = record { is = rw (ap (flat_rule_fault before) (run_cons r e).0 ∙ sym (k l)) }

  module _ (k : (letter : ℕ) → none ≡ flat_rule_fault before (field_of s letter start len)) where
    head_sound : flat_rule_fault before f ≡ none
    head_sound = ap (flat_rule_fault before) (run_cons r e).0 ∙ sym (k l)

    pub premise_fault : {n : Refusal}
        → ((gs : List Field) → Run s next end gs
        → Section (Err n) s next end letter_b (statement_fault sig (kinds_of letter_b) variables) gs)
        → Rule (Err n) sig variables before s at end f fs
    unfolding block_fault
    premise_fault p = record { is = rw (head_sound, premise_check ∙ (p fs (run_cons r e).1).is) }

    module _ {n₁ conclusions : ℕ} (p : (gs : List Field) → Run s next end gs
        → Section (counted n₁ conclusions) s next end letter_b (statement_fault sig (kinds_of letter_b) variables) gs) where
      premise_sound : fault_among letter_b (statement_fault sig premise_kinds variables) (up_to letter_u fs) ≡ none
      premise_sound = premise_check ∙ (p fs (run_cons r e).1).is.0

      mid_run : Run s conclusions end (trailing letter_b fs)
      mid_run = (p fs (run_cons r e).1).is.3

      pub conclusion_fault : {n : Refusal} → ((gs : List Field) → Run s conclusions end gs
          → Section (Err n) s conclusions end letter_h (statement_fault sig (kinds_of letter_h) variables) gs)
          → Rule (Err n) sig variables before s at end f fs
      unfolding block_fault
      conclusion_fault q = record { is = rw (head_sound, premise_sound, conclusion_check ∙ (q (trailing letter_b fs) mid_run).is) }

      -- Where its first conclusion stands, and those of the rules behind it.
      begins : (k : ℕ) → conclusion_at (suc k) (f ∷ fs) at ≡ conclusion_at k fs next
      begins k =
          let q = (run_cons r e).0 in
          rw q (begun s at e (sym (ap (λ (x : Field). x.letter) q) ∙ o.0) k fs)

      over : (k : ℕ) {behind : ℕ} → Run s next conclusions (leading letter_b fs) → Run s conclusions behind (leading letter_h (trailing letter_b fs))
          → conclusion_at (suc k) fs next ≡ conclusion_at (suc k) (rest_of fs o.1) behind
      over k a b = ap (λ (gs : List Field). conclusion_at (suc k) gs next) (split letter_b fs)
          ∙ passed_over a (suc k) (trailing letter_b fs) (with_other letter_b letter_u (λ q. omega arith) fs)
          ∙ ap (λ (gs : List Field). conclusion_at (suc k) gs conclusions) (split letter_h (trailing letter_b fs))
          ∙ passed_over b (suc k) (rest_of fs o.1) (with_other letter_h letter_u (λ q. omega arith) (trailing letter_b fs))

      reached : Run s next conclusions (leading letter_b fs) → (leading letter_h (trailing letter_b fs) ≡ [] → ⊥) → conclusion_at zero fs next ≡ conclusions
      reached a m = ap (λ (gs : List Field). conclusion_at zero gs next) (split letter_b fs)
          ∙ passed_over a zero (trailing letter_b fs) (with_other letter_b letter_h (λ q. omega arith) fs)
          ∙ found (trailing letter_b fs) conclusions m

      pub rule_done : {n₂ behind : ℕ} → ((gs : List Field) → Run s conclusions end gs
          → Section (counted n₂ behind) s conclusions end letter_h (statement_fault sig (kinds_of letter_h) variables) gs)
          → Rule (ruled conclusions behind) sig variables before s at end f fs
      unfolding block_fault
      rule_done q =
          let b = (p fs (run_cons r e).1).is in
          let h = (q (trailing letter_b fs) mid_run).is in
          let g = got_is s at e in
          let n : at + 3 + two_at s (at + 1) ≡ next = rw (g.start_is, g.len_is) g.next_is in
          record {
            is = (
              rw (head_sound, premise_sound, conclusion_check ∙ h.0),
              record {
                head = got_field s at e ∙ sym (run_cons r e).0;
                within = rw n g.within;
                premise = rw (n, premises_are fs o.1) b.2;
                conclusion = rw (conclusions_are fs o.1) h.2;
                sound = record {
                  premise = rw (premises_are fs o.1) (stated sig letter_b variables 0 none (leading letter_b fs) b.0);
                  conclusion = rw (conclusions_are fs o.1) (stated sig letter_h variables 0 none (leading letter_h (trailing letter_b fs)) h.0);
                };
                rest = rest_of fs o.1;
                run = h.3;
                order = rest_order fs o.1;
                others = others_are fs o.1;
                passed = λ k. begins (suc k) ∙ over k b.2 h.2;
                first = λ m. begins zero ∙ reached b.2 (λ z. m (conclusions_are fs o.1 ∙ z));
              },
            );
          }
