-- The pass along a rule's letters: where the sections start, and how many structures there are.
use Prim.Native.Nat.{ℕ, zero, suc, ◌+◌, ◌-◌, ◌*◌, ◌≤◌, ◌<◌}
use native.Mathlib.Omega.{arith}
use native.Mathlib.Decide.{ℕ_discrete, dec_lt}
use mathlib.Core.Bool.{Bool, true, false}
use mathlib.Core.List.{List, [], ◌∷◌, ◌++◌, append-nil, append_assoc}
use mathlib.Core.Logic.{◌⊎◌, inl, inr, ⊎_elim}
use mathlib.Core.Path.{◌≡◌, refl, sym, ◌∙◌, ap}
use lib.Dec.{eqb, leb}
use lib.ListN.{length, get_or, set}
use lib.Seq.{get_or-set_same}
use borrow.Author.Tests.{eq-eqb, ne_eqb, le-leb, lt-leb, leb-true}
use Rattle.definition.specs.Base.{when, cons_if, keep}
use Rattle.definition.specs.Letters.{letter_n, letter_s, start}
use Rattle.definition.specs.Limits.{structure_limit, rule_bytes}
use Rattle.definition.specs.Records.{Field, Fields, end, bad, ◌▸◌, Part, follows, placed, with_letter, blocks, in_front}
use Rattle.definition.specs.Rule.{rule_grammar, rule_part}
use Rattle.laws.proofs.Lists.{never}
use Rattle.records.specs.Places.{field_at, fields_at, field_of, Run, none, got}
use Rattle.std.proofs.Common.{None}
use Rattle.records.proofs.Runs.{run_snoc, run_end}
use Rattle.records.proofs.Placed.{Placing, Placed, passing, placing_start, placing_next, placing_stop, placing_bad, placing_end}
use Rattle.rule.specs.Layout.{letter_at, place_of, place_n, place_s, place_e, place_i, place_m, place_x, letters, may_follow, with_one, section_at}
use Rattle.rule.specs.Layout.{Section, front, within, back, number_of, Proper, fields_in, sections, rule_index, bound_at, Sectioned, section_from}
use Rattle.rule.specs.Answers.{Passes}
use Rattle.rule.proofs.Letters.{letter_is, follows_is, follows_far, last_is, not_first, not_start, may_cases, may_repeat, section_first}
use Rattle.rule.proofs.Letters.{section_inside, section_behind}
use Rattle.rule.proofs.Laying.{none_within, blocks_count, grows}

-- The pass stands at a position, behind the letter of a place, in a section, with so many structures.
pub record Passing (s index : List ℕ) (at behind section n : ℕ) : Type 0 where
  pub passed : List Field
  pub placing : Placing rule_grammar s (rule_part s) (letter_at behind) at passed
  pub counted : n ≡ length (blocks letter_s passed)
  pub few : n ≤ structure_limit
  pub place : behind ≤ place_x
  pub section_is : section ≡ section_at n behind
  pub first : behind ≤ place_n → n ≡ 0
  pub later : place_s ≤ behind → 1 ≤ n
  pub runs : (t : Section) → Proper t → Run s (bound_at index section at (number_of t)) (bound_at index section at (number_of t + 1)) (fields_in t passed)

module _ (index : List ℕ) (section at t : ℕ) where
  bound_in : t ≤ section → bound_at index section at t ≡ get_or index t 0
  bound_in h = rw (le-leb t section h)

  bound_out : section < t → bound_at index section at t ≡ at
  bound_out h = rw (lt-leb t section h)

passing_fields : (fs : List Field) (part : Part) → (passing fs part).fields ≡ fs ++ part.fields
unfolding passing
passing_fields [] part = refl
passing_fields (f ∷ fs) part = rw (passing_fields fs part)

-- Behind another field there is no N.
no_n : (b : ℕ) → (b ≡ start → ⊥) → (fs : Fields) → with_letter letter_n (placed rule_grammar b fs).fields ≡ []
unfolding placed with_letter keep
no_n b h end = refl
no_n b h bad = refl
no_n b h (f ▸ fs) = go (follows rule_grammar.places b f.letter) refl (λ d. no_n f.letter d fs)
  where
    go : (t : Bool) → follows rule_grammar.places b f.letter ≡ t
        → ((f.letter ≡ start → ⊥) → with_letter letter_n (placed rule_grammar f.letter fs).fields ≡ [])
        → with_letter letter_n (when t (λ _. in_front f (placed rule_grammar f.letter fs)) (λ _. record { fields = []; whole = false })).fields ≡ []
    go false e i = refl
    go true e i = rw (ne_eqb f.letter letter_n (λ q. not_first b h (rw q at e))) (i (λ q. not_start b (rw q at e)))

no_head : (b : ℕ) → (b ≡ start → ⊥) → (fs : Fields) (f : Field) → f.letter ≡ b → (b ≡ letter_n → ⊥)
    → with_letter letter_n (f ∷ (placed rule_grammar b fs).fields) ≡ []
unfolding with_letter keep
no_head b h fs f e d = rw (e, ne_eqb b letter_n d) (no_n b h fs)

-- No field has been passed.
fields_none : (t : Section) → Proper t → fields_in t [] ≡ []
unfolding fields_in with_letter keep blocks
fields_none front v = refl
fields_none (within k r) v = none_within [] k r (omega arith) (omega (arith, v.1)) (omega (arith, v.2))
fields_none (back r) v = refl

bound_zero : (index : List ℕ) (t : ℕ) → length index ≡ rule_index → bound_at (set index 0 0) 0 0 t ≡ 0
bound_zero index zero l = get_or-set_same index 0 0 0 (omega (arith, l))
bound_zero index (suc t) l = bound_out (set index 0 0) 0 0 (suc t) (omega arith)

pub pass_start : (s index : List ℕ) → length index ≡ rule_index → Passing s (set index 0 0) 0 0 0 0
unfolding rule_part letter_at section_at blocks
pass_start s index l = record {
  passed = [];
  placing = placing_start rule_grammar s;
  counted = refl;
  few = omega arith;
  place = omega arith;
  section_is = refl;
  first = λ h. refl;
  later = λ h. absurd (omega arith);
  runs = λ t v. rw (bound_zero index (number_of t) l, bound_zero index (number_of t + 1) l, fields_none t v) none;
}

-- A section has a number below those of its kind's end.
number_in : (t : Section) → Proper t → number_of t + 1 ≤ sections
number_in front v = omega arith
number_in (within k r) v = omega (arith, v.0, v.2)
number_in (back r) v = omega (arith, v.1)

module _ {s index : List ℕ} {at behind section n : ℕ} (p : Passing s index at behind section n) where
  -- The letter of a place may follow or not.
  follow : (letter q : ℕ) → q ≡ place_of letter → {b : Bool} → may_follow behind q ≡ b → q ≤ place_x → follows rule_grammar.places (letter_at behind) letter ≡ b
  follow letter q e m h = rw (letter_is letter q (sym e) h) (follows_is behind q p.place h ∙ m)

  -- What the place of a letter that follows tells.
  pub place_in : (q : ℕ) → may_follow behind q ≡ true → (place_n ≤ q) × (q ≤ place_x)
  place_in q m = ⊎_elim (λ x. (omega (arith, x.0), omega (arith, x.0)))
      (λ x. ⊎_elim (λ y. (omega (arith, y.0), omega (arith, y.0))) (λ y. (omega (arith, y.0), y.1)) x) (may_cases behind q m)

  first_place : (q : ℕ) → may_follow behind q ≡ true → q ≡ place_n → n ≡ 0
  first_place q m h = p.first
      (⊎_elim (λ x. omega (arith, x.1)) (λ x. ⊎_elim (λ y. absurd (omega (arith, y.0))) (λ y. absurd (omega (arith, y.0))) x) (may_cases behind q m))

  later_place : (q : ℕ) → may_follow behind q ≡ true → place_e ≤ q → 1 ≤ n
  later_place q m h = p.later
      (⊎_elim (λ x. absurd (omega (arith, x.0))) (λ x. ⊎_elim (λ y. absurd (omega (arith, y.0))) (λ y. y.2) x) (may_cases behind q m))

  pub some_structure : (q : ℕ) → may_follow behind q ≡ true → place_n < q → 1 ≤ with_one n q
  some_structure q m h = go (ℕ_discrete q place_s)
    where
      go : Dec (q ≡ place_s) → 1 ≤ with_one n q
      go (yes x) = rw (eq-eqb q place_s x) (omega arith)
      go (no x) = rw (ne_eqb q place_s x) (later_place q m (omega arith))

  -- Sections are not gone back to.
  section_low : section ≤ letters * n + 0 ⊎ ((place_m ≤ behind) × (section ≡ number_of (back behind)))
  section_low = go (dec_lt behind place_s) (dec_lt behind place_m)
    where
      go : Dec (behind < place_s) → Dec (behind < place_m) → section ≤ letters * n + 0 ⊎ ((place_m ≤ behind) × (section ≡ number_of (back behind)))
      go (yes a) b = inl (omega (arith, p.section_is ∙ section_first n behind (omega arith)))
      go (no a) (yes b) = inl (omega (arith, p.section_is ∙ section_inside n behind (omega arith) (omega arith)))
      go (no a) (no b) = inr (omega arith, p.section_is ∙ section_behind n behind (omega arith))

  -- What the filling of sections asks.
  pub section_in : section ≤ sections
  section_in = ⊎_elim (λ a. omega (arith, p.few)) (λ a. omega (arith, a.1, p.place)) section_low

  pub short : length s ≤ rule_bytes → at < 65536
  short h = omega (arith, p.placing.within)

  pub section_next : (q : ℕ) → may_follow behind q ≡ true → section ≤ section_at (with_one n q) q
  section_next q m = ⊎_elim one (⊎_elim two three) (may_cases behind q m)
    where
      one : (q ≡ place_n) × (behind ≡ 0) → section ≤ section_at (with_one n q) q
      one x = omega (arith, p.section_is ∙ section_first n behind (omega (arith, x.1)))

      two : (q ≡ place_s) × (place_n ≤ behind) × (behind ≤ place_i) → section ≤ section_at (with_one n q) q
      two x =
          let e : section_at (with_one n q) q ≡ number_of (within n place_s)
          = section_inside (with_one n q) q (omega (arith, x.0)) (omega (arith, x.0)) ∙ rw (eq-eqb q place_s x.0) (omega (arith, x.0)) in
          ⊎_elim (λ a. omega arith) (λ a. absurd (omega (arith, a.0, x.2))) section_low

      three : (place_e ≤ q) × (q ≤ place_x) × (place_s ≤ behind) × (behind ≤ q) → section ≤ section_at (with_one n q) q
      three x = go (dec_lt q place_m) (dec_lt behind place_m)
        where
          go : Dec (q < place_m) → Dec (behind < place_m) → section ≤ section_at (with_one n q) q
          go (yes a) b =
              let e : section_at (with_one n q) q ≡ letters * n + q - place_i
              = section_inside (with_one n q) q (omega (arith, x.0)) (omega arith) ∙ rw (ne_eqb q place_s (λ z. omega (arith, x.0))) in
              omega (arith, p.section_is ∙ section_inside n behind x.2 (omega (arith, x.3)), x.3)
          go (no a) (yes b) =
              omega (arith, section_behind (with_one n q) q (omega arith), p.section_is ∙ section_inside n behind x.2 (omega arith), p.few)
          go (no a) (no b) =
              omega (arith, section_behind (with_one n q) q (omega arith), p.section_is ∙ section_behind n behind (omega arith), x.3)

  pub next_in : (q : ℕ) → may_follow behind q ≡ true → with_one n q ≤ structure_limit → section_at (with_one n q) q ≤ sections
  next_in q m few = let w = place_in q m in go w (dec_lt q place_s) (dec_lt q place_m)
    where
      go : (place_n ≤ q) × (q ≤ place_x) → Dec (q < place_s) → Dec (q < place_m) → section_at (with_one n q) q ≤ sections
      go w (yes a) b = omega (arith, section_first (with_one n q) q (omega arith))
      go w (no a) (yes b) = omega (arith, section_inside (with_one n q) q (omega arith) (omega arith))
      go w (no a) (no b) = omega (arith, section_behind (with_one n q) q (omega arith), w.1)

  -- One field more.
  module _ (letter start len next q : ℕ) (index' : List ℕ) (e : field_at s at ≡ got letter start len next) (place : q ≡ place_of letter)
      (m : may_follow behind q ≡ true) (few : with_one n q ≤ structure_limit)
      (same : (t : ℕ) → bound_at index' (section_at (with_one n q) q) at t ≡ bound_at index section at t) where
    abbrev to : ℕ
    to = section_at (with_one n q) q

    abbrev f : Field
    f = field_of s letter start len

    grown : (t : Section) → Proper t → fields_in t (p.passed ++ (f ∷ [])) ≡ fields_in t p.passed ++ cons_if (eqb (number_of t) to) f []
    grown t v = let w = place_in q m in grows p.passed f n q (sym place) w.1 p.counted w.0 (first_place q m) (later_place q m) few t v

    old : (t : Section) → Proper t → Run s (bound_at index' to at (number_of t)) (bound_at index' to at (number_of t + 1)) (fields_in t p.passed)
    old t v = rw (same (number_of t), same (number_of t + 1)) (p.runs t v)

    ran : (t : Section) → Proper t
        → Run s (bound_at index' to next (number_of t)) (bound_at index' to next (number_of t + 1)) (fields_in t (p.passed ++ (f ∷ [])))
    ran t v = go (dec_lt (number_of t) to) (ℕ_discrete (number_of t) to)
      where
        go : Dec (number_of t < to) → Dec (number_of t ≡ to)
            → Run s (bound_at index' to next (number_of t)) (bound_at index' to next (number_of t + 1)) (fields_in t (p.passed ++ (f ∷ [])))
        go (yes a) b =
            let r = rw (bound_in index' to at (number_of t) (omega arith), bound_in index' to at (number_of t + 1) (omega arith)) at (old t v) in
            rw (
              bound_in index' to next (number_of t) (omega arith),
              bound_in index' to next (number_of t + 1) (omega arith),
              grown t v,
              ne_eqb (number_of t) to (λ z. omega arith),
              append-nil,
            ) r
        go (no a) (yes b) =
            let r = rw (bound_in index' to at (number_of t) (omega arith), bound_out index' to at (number_of t + 1) (omega arith)) at (old t v) in
            rw (
              bound_in index' to next (number_of t) (omega arith),
              bound_out index' to next (number_of t + 1) (omega arith),
              grown t v,
              eq-eqb (number_of t) to b,
            ) (run_snoc r e)
        go (no a) (no b) =
            let r = rw (bound_out index' to at (number_of t) (omega arith), bound_out index' to at (number_of t + 1) (omega arith)) at (old t v) in
            rw (
              bound_out index' to next (number_of t) (omega arith),
              bound_out index' to next (number_of t + 1) (omega arith),
              grown t v,
              ne_eqb (number_of t) to b,
              run_end r (omega arith),
            ) none

    pub pass_next : Passing s index' next q to (with_one n q)
    pass_next = let w = place_in q m in record {
      passed = p.passed ++ (f ∷ []);
      placing = rw (← (letter_is letter q (sym place) w.1)) (placing_next p.placing e (follow letter q place m w.1));
      counted = blocks_count p.passed f n q (sym place) w.1 p.counted;
      few = few;
      place = w.1;
      section_is = refl;
      first = λ h. rw (ne_eqb q place_s (λ z. omega arith)) (first_place q m (omega (arith, w.0)));
      later = λ h. some_structure q m (omega arith);
      runs = ran;
    }

  -- A letter that is repeated stays in its section.
  pub pass_again : (letter start len next : ℕ) → field_at s at ≡ got letter start len next → behind ≡ place_of letter → place_s < behind
      → Passing s index next behind section n
  pass_again letter start len next e place h =
      let one : with_one n behind ≡ n = rw (ne_eqb behind place_s (λ z. omega arith)) in
      let to : section_at (with_one n behind) behind ≡ section = rw one (sym p.section_is) in
      rw (to, one) at (pass_next letter start len next behind index e place (may_repeat behind h p.place) (rw one p.few) (λ t. rw to))

  -- The pass ends: the sections that are left start, and end, here.
  module _ (index' : List ℕ) (same : (t : ℕ) → bound_at index' sections at t ≡ bound_at index section at t) where
    laid : Sectioned s index' p.passed
    laid = record {
      run = λ t v. let h = number_in t v in
          rw (bound_in index' sections at (number_of t) (omega arith), bound_in index' sections at (number_of t + 1) h) at
          (rw (← same (number_of t), ← same (number_of t + 1)) at (p.runs t v));
    }

    ended : {whole : Bool} → (whole ≡ true → place_s ≤ behind) → Placed s (rule_part s) at whole p.passed → Passes s index' whole n
    ended m q = record {
      passed = p.passed;
      few = rw (← p.counted) p.few;
      laid = laid;
      upto = inl (record { fields = q.fields; same = q.parted.same; counted = p.counted; some = λ e. p.later (m e) });
    }

    pub pass_bad : at < length s → field_at s at ≡ None → Passes s index' false n
    pass_bad h e = ended (λ z. never z refl) (placing_bad p.placing h e)

    pub pass_stop : (letter start len next q : ℕ) → field_at s at ≡ got letter start len next → q ≡ place_of letter → may_follow behind q ≡ false
        → Passes s index' false n
    pass_stop letter start len next q e place m = ended (λ z. never z refl) (placing_stop p.placing e (go (dec_lt place_x q)))
      where
        go : Dec (place_x < q) → follows rule_grammar.places (letter_at behind) letter ≡ false
        go (yes h) = follows_far (letter_at behind) letter (rw (← place) h)
        go (no h) = follow letter q place m (omega arith)

    pub pass_end : length s ≤ at → Passes s index' (leb place_s behind) n
    pass_end h = ended (λ z. leb-true place_s behind z) (placing_end p.placing h (last_is behind p.place))

    -- A structure over the limit.
    module _ (letter start len next q : ℕ) (e : field_at s at ≡ got letter start len next) (place : q ≡ place_of letter)
        (m : may_follow behind q ≡ true) (over : structure_limit < with_one n q) where
      place_s_lem : q ≡ place_s
      place_s_lem = go (ℕ_discrete q place_s)
        where
          go : Dec (q ≡ place_s) → q ≡ place_s
          go (yes h) = h
          go (no h) = absurd (omega (arith, rw (ne_eqb q place_s h) at over, p.few))

      full : structure_limit ≡ n
      full = omega (arith, rw (eq-eqb q place_s place_s_lem) at over, p.few)

      behind_low : behind ≤ place_i
      behind_low = ⊎_elim (λ x. omega (arith, x.1)) (⊎_elim (λ x. x.2) (λ x. absurd (omega (arith, x.0, place_s_lem)))) (may_cases behind q m)

      abbrev beyond : ℕ
      beyond = number_of (within structure_limit place_s)

      starts : get_or index' beyond 0 ≡ at
      starts =
          let low : section < beyond = ⊎_elim (λ a. omega (arith, full)) (λ a. absurd (omega (arith, a.0, behind_low))) section_low in
          sym (bound_in index' sections at beyond (omega arith)) ∙ same beyond ∙ bound_out index section at beyond low

      is_s : letter ≡ letter_s
      unfolding letter_at
      is_s = letter_is letter place_s (sym place ∙ place_s_lem) (omega arith)

      pub pass_over : Passes s index' false (with_one n q)
      unfolding section_from
      pass_over =
          let w = place_in q m in
          let nx = placing_next p.placing e (follow letter q place m w.1) in
          record {
            passed = p.passed;
            few = rw (← p.counted) p.few;
            laid = laid;
            upto = inr (record {
              next = field_of s letter start len;
              rest = (placed rule_grammar letter (fields_at s next)).fields;
              fields = ap (λ (x : Part). x.fields) nx.left
                  ∙ passing_fields (p.passed ++ (field_of s letter start len ∷ [])) (placed rule_grammar letter (fields_at s next))
                  ∙ append_assoc p.passed (field_of s letter start len ∷ []) (placed rule_grammar letter (fields_at s next)).fields;
              no_name = rw (is_s) (no_head letter_s (λ z. omega arith) (fields_at s next) (field_of s letter_s start len) refl (λ z. omega arith));
              head = record { start = start; len = len; next = next; got = rw (starts, ← is_s) e; same = rw (← is_s) };
              full = full ∙ p.counted;
              counted = rw (eq-eqb q place_s place_s_lem) (omega (arith, full));
            });
          }
