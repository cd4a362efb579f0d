-- From the pass and the checks to the rule's answer.
use Prim.Native.Nat.{ℕ, zero, suc, ◌+◌, ◌≤◌, ◌<◌}
use native.Mathlib.Omega.{arith}
use native.Mathlib.Decide.{dec_lt}
use mathlib.Core.Bool.{Bool, true, false}
use mathlib.Core.List.{List, [], ◌∷◌, ◌++◌, append-nil}
use mathlib.Core.Logic.{inl, inr, ⊎_elim}
use mathlib.Core.Option.{Option, none, some}
use mathlib.Core.Path.{◌≡◌, refl, sym, ◌∙◌, ap}
use lib.Dec.{eqb}
use lib.ListN.{length, get_or, length-append}
use borrow.Author.Tests.{eq-eqb, ne_eqb, eqb-true, lt-ltb, le-ltb}
use Rattle.definition.specs.Base.{refused, accepted, pick, keep, each, span}
use Rattle.definition.specs.Letters.{letter_n, letter_s, letter_e, letter_m, letter_k, letter_x}
use Rattle.definition.specs.Limits.{structure_limit, rule_bytes}
use Rattle.definition.specs.Records.{Field, Block, with_letter, up_to, blocks, fault_among, read_part}
use Rattle.definition.specs.Signature.{Signature}
use Rattle.definition.specs.Rule.{head_fault, named_elements, structures_fault, named_in, rule_fault, rule_part, rule_of, read_rule, map_fault, kind_fault}
use Rattle.definition.specs.Rule.{auxiliary_fault}
use Rattle.records.specs.Places.{field_of, Run, none, more}
use Rattle.std.proofs.Common.{Ok}
use Rattle.rule.specs.Layout.{letter_at, front, within, back, no_block, block_at, fields_in, Sectioned, section_from, section_to, behind_from}
use Rattle.rule.specs.Layout.{behind_to, number_of}
use Rattle.rule.specs.Layout.{place_s, place_e, place_i, place_m, place_k, place_x}
use Rattle.rule.specs.Elements.{element_fields, element_numbers, numbers_in, Known}
use Rattle.rule.specs.Faults.{check_of, tail_fault}
use Rattle.rule.specs.declared.faults.SectionKind.{SectionKind}
use Rattle.rule.specs.declared.faults.SectionKind.TheVariants as section
use Rattle.rule.specs.Answers.{HeadAt, Bodied, Structured, Tailed, Ended, Over, Passes, Kept, AllHold, Indexed}
use Rattle.rule.proofs.Blocks.{blocks_append, head_letter}
use Rattle.rule.proofs.Letters.{letter_test, place_is}
use Rattle.rule.proofs.Bodies.{named_is, bodied_kept}
use Rattle.rule.proofs.Checking.{SectionTold, told_among}
use Rattle.laws.proofs.Numbers.{with_append}

-- The letters of a structure's fields are not S.
inner_letter : (q : ℕ) → place_e ≤ q → q ≤ place_i → eqb letter_s (letter_at q) ≡ false
unfolding letter_at
inner_letter q lo hi = letter_test letter_s place_s q (place_is place_s (omega arith)) (omega arith) (omega arith) ∙ ne_eqb place_s q (λ e. omega arith)

-- The first field of a run.
run_head : {s : List ℕ} {at end : ℕ} {xs : List Field} → Run s at end xs → (f : Field) (ys : List Field) → xs ≡ f ∷ ys → f.letter ≡ letter_s → HeadAt s at f
run_head none f ys e l = let z : ◌≡◌ {A = ℕ} 0 1 = cc in absurd (omega arith)
run_head {s} (more {at} {letter} {start} {len} {next} g r) f ys e l =
    let q : field_of s letter start len ≡ f = cc in
    let m : letter ≡ letter_s = ap (λ (x : Field). x.letter) q ∙ l in
    record { start = start; len = len; next = next; got = rw m at g; same = sym q ∙ rw m }

-- The sections of the structures that were passed.
module _ {s index : List ℕ} {passed : List Field} (w : Sectioned s index passed) (k : ℕ) (h : k < length (blocks letter_s passed))
    (few : k < structure_limit) where
  head_is : (block_at passed k).head.letter ≡ letter_s
  head_is = eqb-true _ _ (head_letter letter_s passed k no_block h)

  head_first : fields_in (within k place_s) passed ≡ (block_at passed k).head ∷ with_letter letter_s (block_at passed k).body
  unfolding fields_in with_letter keep letter_at
  head_first = rw (head_letter letter_s passed k no_block h)

  laid_head : HeadAt s (section_from index k place_s) (block_at passed k).head
  unfolding section_from
  laid_head =
      run_head (w.run (within k place_s) (few, omega arith, omega arith)) (block_at passed k).head (with_letter letter_s (block_at passed k).body) head_first
      head_is

  body_only : (q : ℕ) → place_e ≤ q → q ≤ place_i → fields_in (within k q) passed ≡ with_letter (letter_at q) (block_at passed k).body
  unfolding fields_in with_letter keep
  body_only q lo hi = rw (head_is, inner_letter q lo hi)

  laid_body : Bodied s index k (block_at passed k).body
  unfolding section_from section_to
  laid_body = record { run = λ q lo hi. rw (body_only q lo hi) at (w.run (within k q) (few, omega arith, hi)) }

-- Lists one behind the other.
get_left : (xs ys : List Block) (k : ℕ) (d : Block) → k < length xs → get_or (xs ++ ys) k d ≡ get_or xs k d
get_left [] ys k d h = absurd (omega arith)
get_left (x ∷ xs) ys zero d h = refl
get_left (x ∷ xs) ys (suc k) d h = get_left xs ys k d (omega arith)

get_right : (xs ys : List Block) (y : Block) (k : ℕ) (d : Block) → k ≡ length xs → get_or (xs ++ (y ∷ ys)) k d ≡ y
get_right [] ys y zero d h = refl
get_right [] ys y (suc k) d h = absurd (omega arith)
get_right (x ∷ xs) ys y zero d h = absurd (omega arith)
get_right (x ∷ xs) ys y (suc k) d h = get_right xs ys y k d (omega arith)

module _ {s index : List ℕ} {whole : Bool} {n : ℕ} (p : Passes s index whole n) where
  of_ended : Ended s p.passed whole n → Structured s index n (blocks letter_s p.passed)
  of_ended e = record {
    counted = inl e.counted;
    few = omega (arith, p.few, e.counted);
    head = λ k h. laid_head p.laid k (omega (arith, e.counted)) (omega (arith, p.few, e.counted));
    body = λ k h l. laid_body p.laid k (omega (arith, e.counted)) l;
  }

  of_over : (o : Over s index p.passed n) → (bs : List Block) (b : Block) → b.head ≡ o.next → Structured s index n (blocks letter_s p.passed ++ (b ∷ bs))
  of_over o bs b e =
      let m : length (blocks letter_s p.passed ++ (b ∷ bs)) ≡ length (blocks letter_s p.passed) + suc (length bs) = rw length-append in
      record {
        counted = inr (o.counted, omega (arith, o.counted, o.full));
        few = omega (arith, o.counted);
        head = λ k h. head k h (dec_lt k structure_limit);
        body = λ k h l. rw (get_left (blocks letter_s p.passed) (b ∷ bs) k no_block (omega (arith, o.full)))
            (laid_body p.laid k (omega (arith, o.full)) l);
      }
    where
      head : (k : ℕ) → k < n → Dec (k < structure_limit)
          → HeadAt s (section_from index k place_s) (get_or (blocks letter_s p.passed ++ (b ∷ bs)) k no_block).head
      head k h (yes l) = rw (get_left (blocks letter_s p.passed) (b ∷ bs) k no_block (omega (arith, o.full)))
          (laid_head p.laid k (omega (arith, o.full)) l)
      head k h (no l) =
          let z : k ≡ structure_limit = omega (arith, o.counted) in
          rw (get_right (blocks letter_s p.passed) bs b k no_block (omega (arith, o.full)), e, z) o.head

  blocks_first : (f : Field) (fs : List Field) → f.letter ≡ letter_s
      → blocks letter_s (f ∷ fs) ≡ record { head = f; body = up_to letter_s fs } ∷ blocks letter_s fs
  unfolding blocks
  blocks_first f fs e = rw (eq-eqb _ _ e)

  pub structured : Structured s index n (blocks letter_s (rule_part s).fields)
  structured = ⊎_elim (λ e. rw e.fields (of_ended e)) over p.upto
    where
      over : Over s index p.passed n → Structured s index n (blocks letter_s (rule_part s).fields)
      over o =
          let l : o.next.letter ≡ letter_s = ap (λ (f : Field). f.letter) o.head.same in
          let e : blocks letter_s (rule_part s).fields
          ≡ blocks letter_s p.passed ++ (record { head = o.next; body = up_to letter_s o.rest } ∷ blocks letter_s o.rest)
          = ap (blocks letter_s) o.fields ∙ blocks_append letter_s o.next l p.passed o.rest ∙ rw (blocks_first o.next o.rest l) in
          rw e (of_over o (blocks letter_s o.rest) (record { head = o.next; body = up_to letter_s o.rest }) refl)

  -- The N field.
  pub head_run : Run s (get_or index 0 0) (get_or index (0 + 1) 0) (with_letter letter_n (rule_part s).fields)
  unfolding fields_in
  head_run = ⊎_elim (λ e. rw e.fields (p.laid.run front tt)) over p.upto
    where
      over : Over s index p.passed n → Run s (get_or index 0 0) (get_or index (0 + 1) 0) (with_letter letter_n (rule_part s).fields)
      over o = rw (o.fields, with_append letter_n p.passed (o.next ∷ o.rest), o.no_name, append-nil) (p.laid.run front tt)

  -- Where the structures are few, the part ended.
  pub few_ended : n ≤ structure_limit → Ended s p.passed whole n
  few_ended h = ⊎_elim (λ e. e) (λ o. absurd (omega (arith, o.counted))) p.upto

  pub tailed : n ≤ structure_limit → Tailed s index (rule_part s).fields
  unfolding fields_in behind_from behind_to
  tailed h = let e = few_ended h in record { run = λ q lo hi. rw e.fields (p.laid.run (back q) (lo, hi)) }

-- The elements that can be named are those that the index holds.
each_span : {A B : Type 0} (f : A → B) (g : ℕ → B) (xs : List A) (d : A) (a : ℕ) → ((k : ℕ) → k < length xs → g (a + k) ≡ f (get_or xs k d))
    → each g (span (length xs) a) ≡ each f xs
unfolding each span
each_span f g [] d a h = refl
each_span f g (x ∷ xs) d a h =
    let z : a + 0 ≡ a = omega arith in
    rw (rw z at (h 0 (omega arith)), each_span f g xs d (a + 1) (λ k l. let y : a + suc k ≡ a + 1 + k = omega arith in rw y at (h (suc k) (omega arith))))

pub named_all : {s index : List ℕ} {n : ℕ} (fs : List Field) → n ≡ length (blocks letter_s fs) → Known s index n
    → ((k : ℕ) → k < n → element_fields s index k ≡ with_letter letter_e (block_at fs k).body) → numbers_in s index n ≡ named_in fs
unfolding numbers_in named_in
named_all {s} {index} fs e w h = rw e (each_span (λ (b : Block). named_elements b.body) (element_numbers s index) (blocks letter_s fs) no_block 0 one)
  where
    one : (k : ℕ) → k < length (blocks letter_s fs) → element_numbers s index (0 + k) ≡ named_elements (block_at fs k).body
    one k l = let z : 0 + k ≡ k = omega arith in rw z (named_is (block_at fs k).body (w.elements k (omega arith)) (h k (omega arith)))

-- The run of a section behind the structures, by its number.
pub tail_run : {s index : List ℕ} {fs : List Field} → Tailed s index fs → (q letter : ℕ) → place_m ≤ q → q ≤ place_x → letter_at q ≡ letter
    → Run s (get_or index (number_of (back q)) 0) (get_or index (number_of (back q) + 1) 0) (with_letter letter fs)
unfolding behind_from behind_to
tail_run b q letter lo hi e = rw (← e) (b.run q lo hi)

pub letter_m_lem : letter_at place_m ≡ letter_m
unfolding letter_at
letter_m_lem = refl

pub letter_k_lem : letter_at place_k ≡ letter_k
unfolding letter_at
letter_k_lem = refl

pub letter_x_lem : letter_at place_x ≡ letter_x
unfolding letter_at
letter_x_lem = refl

-- M, K and X, from what the checks of their sections told.
module _ (sig : Signature) {s index : List ℕ} (n : ℕ) {fs : List Field} (b : Tailed s index fs) (e : numbers_in s index n ≡ named_in fs) where
  abbrev Told : Option ℕ → SectionKind → ℕ → Type 0
  Told f kind q = SectionTold f (check_of sig (numbers_in s index n) kind) s index (number_of (back q))

  module _ {f : Option ℕ} where
    of_m : Told f section.Map place_m → f ≡ fault_among letter_m (map_fault (named_in fs)) fs
    of_m h = rw (← e) (told_among h _ fs (tail_run b place_m letter_m (omega arith) (omega arith) letter_m_lem))

    of_k : Told f section.Kind place_k → f ≡ fault_among letter_k (kind_fault (named_in fs)) fs
    of_k h = rw (← e) (told_among h _ fs (tail_run b place_k letter_k (omega arith) (omega arith) letter_k_lem))

    of_x : Told f section.Auxiliary place_x → f ≡ fault_among letter_x (auxiliary_fault (named_in fs)) fs
    of_x h = rw (← e) (told_among h _ fs (tail_run b place_x letter_x (omega arith) (omega arith) letter_x_lem))

  pub tail_m : {x : ℕ} → Told (some x) section.Map place_m → some x ≡ tail_fault fs
  unfolding tail_fault
  tail_m h = sym (rw (← (of_m h)))

  module _ (hm : Told none section.Map place_m) where
    pub tail_k : {x : ℕ} → Told (some x) section.Kind place_k → some x ≡ tail_fault fs
    unfolding tail_fault
    tail_k h = sym (rw (← (of_m hm), ← (of_k h)))

    pub tail_x : Told none section.Kind place_k → {f : Option ℕ} → Told f section.Auxiliary place_x → f ≡ tail_fault fs
    unfolding tail_fault
    tail_x hk h = sym (rw (← (of_m hm), ← (of_k hk), ← (of_x h)))

-- The answer, by the first fault.
pub read_long : (sig : Signature) (s : List ℕ) → rule_bytes < length s → refused 1 ≡ read_rule sig s
unfolding read_rule
read_long sig s h = rw (lt-ltb _ _ h)

module _ (sig : Signature) (s : List ℕ) (short : length s ≤ rule_bytes) where
  read_fault : {n : ℕ} → rule_fault sig (rule_part s).fields ≡ some n → refused n ≡ read_rule sig s
  unfolding read_rule read_part
  read_fault e = rw (le-ltb _ _ short, e)

  read_none : rule_fault sig (rule_part s).fields ≡ none → {whole : Bool} → whole ≡ (rule_part s).whole
      → pick whole (accepted (rule_of (rule_part s).fields)) (refused 2) ≡ read_rule sig s
  unfolding read_rule read_part
  read_none e w = rw (le-ltb _ _ short, e, ← w)

  abbrev fields : List Field
  fields = (rule_part s).fields

  abbrev Head : Option ℕ → Type 0
  Head f = f ≡ fault_among letter_n head_fault fields

  abbrev Structures : Option ℕ → Type 0
  Structures f = f ≡ structures_fault sig 0 (blocks letter_s fields)

  pub read_head : {n : ℕ} → Head (some n) → refused n ≡ read_rule sig s
  unfolding rule_fault
  read_head h = read_fault (rw (← h))

  module _ (head : Head none) where
    pub read_structures : {n : ℕ} → Structures (some n) → refused n ≡ read_rule sig s
    unfolding rule_fault
    read_structures e = read_fault (rw (← head, ← e))

    module _ (structures : Structures none) where
      whole_fault : {f : Option ℕ} → f ≡ tail_fault fields → rule_fault sig fields ≡ f
      unfolding rule_fault tail_fault
      whole_fault e = rw (← head, ← structures) (sym e)

      pub read_tail : {n : ℕ} → some n ≡ tail_fault fields → refused n ≡ read_rule sig s
      read_tail e = read_fault (whole_fault e)

      module _ (tail : none ≡ tail_fault fields) where
        pub no_fault : rule_fault sig fields ≡ none
        no_fault = whole_fault tail

        pub read_part_lem : {whole : Bool} → whole ≡ (rule_part s).whole → whole ≡ false → refused 2 ≡ read_rule sig s
        read_part_lem w e = rw e at (read_none no_fault w)

        pub read_sound : {whole : Bool} → whole ≡ (rule_part s).whole → whole ≡ true → accepted (rule_of fields) ≡ read_rule sig s
        read_sound w e = rw e at (read_none no_fault w)

-- What the index has after the structures were checked.
module _ {s index index' : List ℕ} {whole : Bool} {n : ℕ} (p : Passes s index whole n) (kept : Kept index index' 0) (known : Known s index' n) where
  pub ended_counted : n ≡ length (blocks letter_s (rule_part s).fields)
  ended_counted = let e = few_ended p known.few in rw e.fields e.counted

  pub ended_same : whole ≡ (rule_part s).whole
  ended_same = (few_ended p known.few).same

  pub ended_tail : Tailed s index' (rule_part s).fields
  unfolding behind_from behind_to
  ended_tail = record {
    run = λ q lo hi.
        rw (kept.before (number_of (back q)) (omega arith), kept.before (number_of (back q) + 1) (omega arith)) ((tailed p known.few).run q lo hi);
  }

  module _ {u : Unit} (holds : AllHold (Ok u) s index' n (blocks letter_s (rule_part s).fields)) where
    pub ended_named : numbers_in s index' n ≡ named_in (rule_part s).fields
    ended_named = named_all (rule_part s).fields ended_counted known holds.is

    pub read_indexed : (sig : Signature) → rule_fault sig (rule_part s).fields ≡ none → whole ≡ true → Indexed sig s index' n
    read_indexed sig f e = record {
      sound = f;
      counted = ended_counted;
      some = (few_ended p known.few).some e;
      known = known;
      head = rw (kept.before 0 (omega arith), kept.before 1 (omega arith)) (head_run p);
      body = λ k h. bodied_kept (omega (arith, known.few)) kept ((structured p).body k h (omega (arith, known.few)));
      tail = ended_tail;
      holds = holds.is;
    }
