-- The group's answer, from the pass and the checks of its fields front to back.
use Prim.Native.Nat.{ℕ, zero, suc, ◌+◌, ◌≤◌, ◌<◌}
use native.Mathlib.Omega.{arith}
use native.Mathlib.Nat.{add-zero}
use native.Mathlib.Numerals.{add-one}
use mathlib.Core.Bool.{Bool, true, false}
use mathlib.Core.List.{List, [], ◌∷◌, append-nil}
use mathlib.Core.Option.{Option, none, some}
use mathlib.Core.Path.{◌≡◌, refl, sym, ◌∙◌, ap}
use lib.ListN.{length, get_or}
use borrow.Author.Tests.{lt-ltb, le-ltb}
use Rattle.definition.specs.Base.{refused, accepted, when, or_else, any, has, keep}
use Rattle.definition.specs.Letters.{letter_g, letter_w, letter_u, start}
use Rattle.definition.specs.Limits.{group_bytes}
use Rattle.definition.specs.Records.{Field, Fields, end, bad, ◌▸◌, follows, placed, in_front, fields_of, with_letter, blocks, fault_from, fault_among}
use Rattle.definition.specs.Records.{read_part}
use Rattle.definition.specs.Signature.{Signature}
use Rattle.definition.specs.Group.{group_grammar, group_part, group_fault, group_of, read_group, title_fault, variable_fault, flat_rules_fault, variable_of}
use Rattle.definition.specs.Scope.{conclusion_at}
use Rattle.records.specs.Places.{Run, Parted}
use Rattle.records.specs.Held.{field_in, held_at}
use Rattle.records.proofs.Index.{held_same, held_get}
use Rattle.records.proofs.Lists.{keep_append}
use Rattle.records.proofs.Runs.{run_end}
use Rattle.group.specs.Sections.{leading, trailing, Ordered, AtRule}
use Rattle.group.specs.Index.{variables_from, Indexed}
use Rattle.group.specs.declared.reader.Checked.{Checked}
use Rattle.records.specs.Refusals.{number}
use Rattle.records.specs.declared.refusal.Refusal.{Refusal}
use Rattle.std.proofs.Common.{Result, Err}
use Rattle.group.specs.Answers.{First, Variable, AllRules, Kept, counted}
use Rattle.group.proofs.First.{run_nil}
use Rattle.group.proofs.Positions.{passed_over}
use Rattle.group.proofs.Blocks.{or_else_none}
use Rattle.group.proofs.Ordered.{placed_ordered}
use Rattle.group.proofs.Shape.{at_title, after_variables, no_title, no_variables}
use Rattle.group.proofs.Leading.{split, with_first, with_skip, with_same, with_other, blocks_skip, blocks_leading}
use Rattle.group.proofs.Listing.{type_named}

-- 1 comes before all fields.
pub read_long : (sig : Signature) (s : List ℕ) → group_bytes < length s → refused 1 ≡ read_group sig s
unfolding read_group
read_long sig s h = rw (lt-ltb _ _ h)

-- Where the part is empty, the G is missing.
no_part : (fs : Fields) → (placed group_grammar start fs).fields ≡ [] → (placed group_grammar start fs).whole ≡ false
unfolding placed has any
no_part end e = refl
no_part bad e = refl
no_part (f ▸ fs) e = go (follows group_grammar.places start f.letter) e
  where
    go : (t : Bool) → (when t (λ _. in_front f (placed group_grammar f.letter fs)) (λ _. record { fields = []; whole = false })).fields ≡ []
        → (when t (λ _. in_front f (placed group_grammar f.letter fs)) (λ _. record { fields = []; whole = false })).whole ≡ false
    go true e = let z : ◌≡◌ {A = ℕ} 0 1 = cc in absurd (omega arith)
    go false e = refl

pub read_empty : (sig : Signature) {s : List ℕ} {end : ℕ} {whole : Bool} → Parted s (group_part s) end whole → length s ≤ group_bytes → end ≡ 0
    → refused 2 ≡ read_group sig s
unfolding read_group read_part group_part group_fault fault_among fault_from with_letter keep blocks flat_rules_fault
read_empty sig {s} p short z =
    let e = run_end p.run (omega arith) in
    let w = no_part (fields_of s) e in
    rw (le-ltb _ _ short, e, w)

-- The G field and the fields behind it.
pub record Parts (s : List ℕ) (end : ℕ) : Type 0 where
  pub head : Field
  pub tail : List Field
  pub same : (group_part s).fields ≡ head ∷ tail
  pub run : Run s 0 end (head ∷ tail)
  pub is_title : head.letter ≡ letter_g
  pub order : Ordered group_grammar letter_g tail

pub parts : {s : List ℕ} {end : ℕ} {whole : Bool} → Parted s (group_part s) end whole → (end ≡ 0 → ⊥) → Parts s end
unfolding group_part
parts {s} {end} p n = go (group_part s).fields refl p.run (placed_ordered group_grammar start (fields_of s))
  where
    go : (fs : List Field) → (group_part s).fields ≡ fs → Run s 0 end fs → Ordered group_grammar start fs → Parts s end
    go [] e r o = absurd (n (run_nil r))
    go (f ∷ fs) e r o = let t = at_title f fs o in record { head = f; tail = fs; same = e; run = r; is_title = t.0; order = t.1 }

-- The fields by their letters.
module _ {s : List ℕ} {end : ℕ} (p : Parts s end) where
  titles : with_letter letter_g (group_part s).fields ≡ p.head ∷ []
  titles = rw p.same (with_first letter_g p.head p.tail p.is_title ∙ ap (λ (fs : List Field). p.head ∷ fs) (no_title p.tail p.order))

  rules_order : AtRule (trailing letter_w p.tail)
  rules_order = after_variables p.tail p.order

  pub variables_are : with_letter letter_w (group_part s).fields ≡ leading letter_w p.tail
  unfolding with_letter
  variables_are = rw p.same (with_skip letter_w p.head p.tail (λ q. omega (arith, p.is_title)) ∙ ap (with_letter letter_w) (split letter_w p.tail)
      ∙ rw keep_append (rw (with_same letter_w p.tail, no_variables (trailing letter_w p.tail) rules_order, append-nil) refl))

  pub rules_are : blocks letter_u (group_part s).fields ≡ blocks letter_u (trailing letter_w p.tail)
  rules_are = rw p.same (blocks_skip letter_u p.head p.tail (λ q. omega (arith, p.is_title))
      ∙ ap (blocks letter_u) (split letter_w p.tail) ∙ blocks_leading letter_w letter_u (λ q. omega arith) p.tail (trailing letter_w p.tail))

  faults : (sig : Signature) → group_fault sig (group_part s).fields ≡ or_else (or_else (title_fault 0 none p.head) none)
      (or_else (fault_from (variable_fault sig) 0 none (leading letter_w p.tail))
      (flat_rules_fault sig (length (leading letter_w p.tail)) 0 (blocks letter_u (trailing letter_w p.tail))))
  unfolding group_fault fault_among fault_from
  faults sig = rw (titles, variables_are, rules_are)

-- Each field of a letter without faults has none.
sound_at : (check : ℕ → Option Field → Field → Option ℕ) (before : ℕ) (last : Option Field) (fs : List Field) → fault_from check before last fs ≡ none
    → (i : ℕ) (d : Field) → i < length fs → (l : Option Field) × (none ≡ check (before + i) l (get_or fs i d))
unfolding fault_from
sound_at check before last [] e i d h = absurd (omega arith)
sound_at check before last (f ∷ fs) e zero d h = (last, rw (add-zero before) (sym (or_else_none (check before last f) _ e).0))
sound_at check before last (f ∷ fs) e (suc i) d h =
    let q : before + suc i ≡ before + 1 + i = omega arith in
    rw q (sound_at check (before + 1) (some f) fs (or_else_none (check before last f) _ e).1 i d (omega arith))

module _ (sig : Signature) {s : List ℕ} {end : ℕ} {whole : Bool} (p : Parted s (group_part s) end whole)
    (short : length s ≤ group_bytes) (n : end ≡ 0 → ⊥) where
  abbrev it : Parts s end
  it = parts p n

  read_is : {f : Option ℕ} → group_fault sig (group_part s).fields ≡ f → read_part (group_part s) f (group_of (group_part s).fields) ≡ read_group sig s
  unfolding read_group
  read_is q = rw (le-ltb _ _ short, q)

  drawn : (m : Refusal) → group_fault sig (group_part s).fields ≡ some (number m) → refused (number m) ≡ read_group sig s
  unfolding read_part
  drawn m q = read_is q

  -- A fault of the G.
  pub read_title : {r : Result Checked Refusal} {n : Refusal}
      → ((f : Field) (fs : List Field) → Run s 0 end (f ∷ fs) → First r s 0 end (title_fault 0 none f) f fs)
      → r ≡ Err n → refused (number n) ≡ read_group sig s
  read_title t e = drawn _ (faults it sig ∙ rw (rw e at (t it.head it.tail it.run)).is)

  -- What the checks told, and that there was no fault: first that of the G.
  module _ {r₁ : Result Checked Refusal} (t : (f : Field) (fs : List Field) → Run s 0 end (f ∷ fs) → First r₁ s 0 end (title_fault 0 none f) f fs)
      {c₁ next₁ : ℕ} (told₁ : r₁ ≡ counted c₁ next₁) where
    title_checked : First (counted c₁ next₁) s 0 end (title_fault 0 none it.head) it.head it.tail
    title_checked = rw told₁ at (t it.head it.tail it.run)

    abbrev Variables : ℕ → Result Checked Refusal → List ℕ → Type 0
    Variables types r index = (signature : Signature) (fs : List Field) → length signature.types ≡ types → Run s next₁ end fs
        → Variable r signature s index next₁ end fs

    -- A fault of a W.
    pub read_variables : {types : ℕ} → length sig.types ≡ types → {r : Result Checked Refusal} {index : List ℕ} {n : Refusal} → Variables types r index
        → r ≡ Err n → refused (number n) ≡ read_group sig s
    read_variables types_are v e = drawn _ (faults it sig
        ∙ rw (title_checked.is.0, (rw e at (v sig it.tail types_are title_checked.is.2)).section.is))

    module _ {types : ℕ} (types_are : length sig.types ≡ types) {r₂ : Result Checked Refusal} {index₁ : List ℕ} (v : Variables types r₂ index₁)
        {variables next₂ : ℕ} (told₂ : r₂ ≡ counted variables next₂) where
      variables_checked : Variable (counted variables next₂) sig s index₁ next₁ end it.tail
      variables_checked = rw told₂ at (v sig it.tail types_are title_checked.is.2)

      variables_sound : fault_from (variable_fault sig) 0 none (leading letter_w it.tail) ≡ none
      variables_sound = variables_checked.section.is.0

      variables_counted : length (leading letter_w it.tail) ≡ variables
      variables_counted = variables_checked.section.is.1

      rules_run : Run s next₂ end (trailing letter_w it.tail)
      rules_run = variables_checked.section.is.3

      -- A fault of a rule.
      pub read_rules : {r : Result Checked Refusal} {index : List ℕ} {n : Refusal}
          → ((fs : List Field) → Run s next₂ end fs → AtRule fs → AllRules r sig variables s index next₂ fs)
          → r ≡ Err n → refused (number n) ≡ read_group sig s
      read_rules u e = drawn _ (faults it sig ∙ rw (
        title_checked.is.0,
        variables_sound,
        variables_counted,
        (rw e at (u (trailing letter_w it.tail) rules_run (rules_order it))).is,
      ))

      module _ {r₃ : Result Checked Refusal} {index₂ : List ℕ}
          (u : (fs : List Field) → Run s next₂ end fs → AtRule fs → AllRules r₃ sig variables s index₂ next₂ fs)
          {rules next₃ : ℕ} (told₃ : r₃ ≡ counted rules next₃) where
        rules_checked : AllRules (counted rules next₃) sig variables s index₂ next₂ (trailing letter_w it.tail)
        rules_checked = rw told₃ at (u (trailing letter_w it.tail) rules_run (rules_order it))

        faultless : group_fault sig (group_part s).fields ≡ none
        faultless = faults it sig ∙ rw (title_checked.is.0, variables_sound, variables_counted, rules_checked.is.0)

        -- No fault, and something is left: 2.
        pub read_left : whole ≡ false → refused 2 ≡ read_group sig s
        unfolding read_part
        read_left w = rw (← p.same, w) at (read_is faultless)

        pub read_all : whole ≡ true → accepted (group_of (group_part s).fields) ≡ read_group sig s
        unfolding read_part
        read_all w = rw (← p.same, w) at (read_is faultless)

        -- The first conclusion is found behind the G and W fields.
        before_rules : (k : ℕ) → conclusion_at (k + 1) (group_part s).fields 0 ≡ conclusion_at (k + 1) (trailing letter_w it.tail) next₂
        unfolding with_letter keep
        before_rules k =
            let h = title_checked.is.1 in
            let l = variables_checked.section.is.2 in
            rw (it.same, add-one) (passed_over h (suc k) it.tail (with_skip letter_u it.head [] (λ q. omega (arith, it.is_title)))
            ∙ ap (λ (gs : List Field). conclusion_at (suc k) gs next₁) (split letter_w it.tail)
            ∙ passed_over l (suc k) (trailing letter_w it.tail) (with_other letter_w letter_u (λ q. omega arith) it.tail))

        -- The index of the rules left that of the variables as it was.
        pub usable : Kept index₁ index₂ → Indexed sig s index₂ variables rules
        usable k =
            let l = variables_checked.listed in
            record {
              variable = record {
                few = l.few;
                each = λ i h. let f = l.few in rw (k.same (variables_from + i) (omega arith)) (l.each i h);
                held = held_same s index₂ index₁ variables_from variables (λ i a b. let f = l.few in k.same i (omega arith)) ∙ l.held
                    ∙ sym (variables_are it);
              };
              typed = λ i h. let f = l.few in rw (k.same (variables_from + i) (omega arith)) (typed i h l.held);
              rule = rw (rules_are it) rules_checked.is.1;
              sound = rw (rules_are it) rules_checked.is.2;
              first = λ k h. rw (rules_are it) (λ m. before_rules k ∙ rules_checked.is.3 k h m);
            }
          where
            typed : (i : ℕ) → i < variables → held_at s index₁ variables_from variables ≡ leading letter_w it.tail
                → (variable_of (field_in s (get_or index₁ (variables_from + i) 0))).type < length sig.types
            typed i h e =
                let w = sound_at (variable_fault sig) 0 none (leading letter_w it.tail) variables_sound i it.head (rw variables_counted h) in
                let q : get_or (leading letter_w it.tail) i it.head ≡ field_in s (get_or index₁ (variables_from + i) 0)
                = rw (← e) (held_get s index₁ variables_from variables i it.head h) in
                rw (← q) (type_named sig (0 + i) w.0 (get_or (leading letter_w it.tail) i it.head) w.1)
