-- The fields of each section, where the record grows by one field: it goes to the section of its letter.
use Prim.Native.Nat.{ℕ, zero, suc, ◌+◌, ◌-◌, ◌*◌, ◌≤◌, ◌<◌}
use native.Mathlib.Omega.{arith}
use native.Mathlib.Decide.{ℕ_discrete, dec_lt}
use mathlib.Core.Bool.{false}
use mathlib.Core.List.{List, [], ◌∷◌, ◌++◌, append-nil}
use mathlib.Core.Path.{◌≡◌, refl, sym, ◌∙◌, ap}
use lib.Dec.{eqb}
use lib.ListN.{length, get_or, get_or-eq_default, length-append}
use borrow.Author.Tests.{eq-eqb, ne_eqb}
use Rattle.definition.specs.Base.{cons_if, keep, place_from}
use Rattle.definition.specs.Letters.{letter_n, letter_s, start}
use Rattle.definition.specs.Limits.{structure_limit}
use Rattle.definition.specs.Records.{Field, Block, with_letter, blocks}
use Rattle.rule.specs.Layout.{letter_at, place_of, place_n, place_s, place_e, place_i, place_m, place_x, letters, with_one, section_at}
use Rattle.rule.specs.Layout.{Section, front, within, back, number_of, Proper, no_block, block_at, whole_block, fields_in}
use Rattle.rule.proofs.Blocks.{add_here, add_other, length_add, with_snoc, blocks_new, blocks_add}
use Rattle.rule.proofs.Letters.{letter_is, letter_test, same_test, place_is, section_first, section_inside, section_behind}

-- The places: N, S, the letters of a structure, those behind them.
data Kind (q : ℕ) : Type 0 where
  of_n : q ≡ place_n → Kind q
  of_s : q ≡ place_s → Kind q
  inner : place_e ≤ q → q ≤ place_i → Kind q
  outer : place_m ≤ q → Kind q

kind_of : (q : ℕ) → place_n ≤ q → Kind q
kind_of q lo = go (ℕ_discrete q place_n) (ℕ_discrete q place_s) (dec_lt q place_m)
  where
    go : Dec (q ≡ place_n) → Dec (q ≡ place_s) → Dec (q < place_m) → Kind q
    go (yes a) b c = of_n a
    go (no a) (yes b) c = of_s b
    go (no a) (no b) (yes c) = inner (omega arith) (omega arith)
    go (no a) (no b) (no c) = outer (omega arith)

-- A block more at the end.
get_old : (bs : List Block) (b : Block) (k : ℕ) (d : Block) → k < length bs → get_or (bs ++ (b ∷ [])) k d ≡ get_or bs k d
get_old [] b k d h = absurd (omega arith)
get_old (c ∷ bs) b zero d h = refl
get_old (c ∷ bs) b (suc k) d h = get_old bs b k d (omega arith)

get_new : (bs : List Block) (b : Block) (k : ℕ) (d : Block) → k ≡ length bs → get_or (bs ++ (b ∷ [])) k d ≡ b
get_new [] b zero d h = refl
get_new [] b (suc k) d h = absurd (omega arith)
get_new (c ∷ bs) b zero d h = absurd (omega arith)
get_new (c ∷ bs) b (suc k) d h = get_new bs b k d (omega arith)

more_than : (n k m : ℕ) → n ≡ m → (k ≡ n → ⊥) → n ≤ k → m + 1 ≤ k
more_than n k m e d h = go (ℕ_discrete k n)
  where
    go : Dec (k ≡ n) → m + 1 ≤ k
    go (yes x) = absurd (d x)
    go (no x) = omega arith

-- The start is no letter of a section.
start_none : (r : ℕ) → place_n ≤ r → r ≤ place_x → eqb start (letter_at r) ≡ false
unfolding place_of letter_at place_from
start_none r h k = letter_test start 0 r refl (omega arith) k ∙ ne_eqb 0 r (λ e. omega arith)

-- Where there is no block, there are no fields.
pub none_within : (fs : List Field) (k r : ℕ) → length (blocks letter_s fs) ≤ k → place_n ≤ r → r ≤ place_x → fields_in (within k r) fs ≡ []
unfolding fields_in with_letter keep
none_within fs k r h lo hi = rw (get_or-eq_default (blocks letter_s fs) no_block h, start_none r lo hi)

module _ (fs : List Field) (f : Field) (n q : ℕ) (e : place_of f.letter ≡ q) (hi : q ≤ place_x) (cn : n ≡ length (blocks letter_s fs)) where
  is_s : q ≡ place_s → f.letter ≡ letter_s
  unfolding letter_at
  is_s h = letter_is f.letter place_s (e ∙ h) (omega arith)

  not_s : (q ≡ place_s → ⊥) → f.letter ≡ letter_s → ⊥
  unfolding place_of letter_at
  not_s h x = h (sym e ∙ ap place_of x ∙ place_is place_s (omega arith))

  -- The structures are counted.
  pub blocks_count : with_one n q ≡ length (blocks letter_s (fs ++ (f ∷ [])))
  blocks_count = go (ℕ_discrete q place_s)
    where
      go : Dec (q ≡ place_s) → with_one n q ≡ length (blocks letter_s (fs ++ (f ∷ [])))
      go (yes h) = rw (eq-eqb q place_s h, blocks_new letter_s f (is_s h) fs, length-append, cn)
      go (no h) = rw (ne_eqb q place_s h, blocks_add letter_s f (not_s h) fs, length_add, cn)

  module _ (lo : place_n ≤ q) (first : q ≡ place_n → n ≡ 0) (later : place_e ≤ q → 1 ≤ n) (few : with_one n q ≤ structure_limit) where
    abbrev here : ℕ
    here = section_at (with_one n q) q

    -- The section of f, by its place.
    at_first : q ≡ place_n → here ≡ 0
    at_first h = section_first (with_one n q) q (omega arith)

    at_new : q ≡ place_s → here ≡ letters * n + (place_s - place_n)
    at_new h = section_inside (with_one n q) q (omega arith) (omega arith) ∙ rw (eq-eqb q place_s h) (omega arith)

    at_inside : place_e ≤ q → q ≤ place_i → here ≡ letters * n + q - place_i
    at_inside h k = section_inside (with_one n q) q (omega arith) k ∙ rw (ne_eqb q place_s (λ x. omega arith))

    at_behind : place_m ≤ q → here ≡ letters * structure_limit + q - place_i
    at_behind h = section_behind (with_one n q) q h

    few_old : (q ≡ place_s → ⊥) → n ≤ structure_limit
    few_old h = rw (ne_eqb q place_s h) at few

    few_new : q ≡ place_s → n + 1 ≤ structure_limit
    few_new h = rw (eq-eqb q place_s h) at few

    few_now : n ≤ structure_limit
    few_now = go (ℕ_discrete q place_s)
      where
        go : Dec (q ≡ place_s) → n ≤ structure_limit
        go (yes h) = omega (arith, few_new h)
        go (no h) = few_old h

    -- A test of the letter is one of the section.
    abbrev Grows : Section → Type 0
    Grows t = fields_in t (fs ++ (f ∷ [])) ≡ fields_in t fs ++ cons_if (eqb (number_of t) here) f []

    of_letter : (r t : ℕ) → r ≤ place_x → (q ≡ r → t ≡ here) → (t ≡ here → q ≡ r) → eqb f.letter (letter_at r) ≡ eqb t here
    of_letter r t h a b = letter_test f.letter q r e hi h ∙ same_test q r t here a b

    here_first : 0 ≡ here → q ≡ place_n
    here_first x = go (kind_of q lo)
      where
        go : Kind q → q ≡ place_n
        go (of_n h) = h
        go (of_s h) = absurd (omega (arith, at_new h))
        go (inner h k) = absurd (omega (arith, at_inside h k, later h))
        go (outer h) = absurd (omega (arith, at_behind h))

    front_grows : Grows front
    unfolding fields_in letter_at
    front_grows = with_snoc letter_n f fs ∙ rw (of_letter place_n 0 (omega arith) (λ x. sym (at_first x)) here_first)

    back_grows : (r : ℕ) → place_m ≤ r → r ≤ place_x → Grows (back r)
    unfolding fields_in
    back_grows r hm hx =
        with_snoc (letter_at r) f fs ∙ rw (of_letter r (number_of (back r)) hx (λ x. go x (kind_of q lo)) (λ x. back_go x (kind_of q lo)))
      where
        go : q ≡ r → Kind q → number_of (back r) ≡ here
        go x (outer h) = omega (arith, at_behind h)
        go x (of_n h) = absurd (omega arith)
        go x (of_s h) = absurd (omega arith)
        go x (inner h k) = absurd (omega arith)

        back_go : number_of (back r) ≡ here → Kind q → q ≡ r
        back_go x (outer h) = omega (arith, at_behind h)
        back_go x (of_n h) = absurd (omega (arith, at_first h))
        back_go x (of_s h) = absurd (omega (arith, at_new h, few_new h))
        back_go x (inner h k) = absurd (omega (arith, at_inside h k, few_now))

    -- A structure's section: of the last structure, which may be new.
    module _ (k r : ℕ) (hk : k < structure_limit) (rs : place_s ≤ r) (ri : r ≤ place_i) where
      abbrev mine : ℕ
      mine = number_of (within k r)

      unmoved : block_at (fs ++ (f ∷ [])) k ≡ block_at fs k → (mine ≡ here → ⊥) → Grows (within k r)
      unfolding fields_in
      unmoved a b = rw (a, ne_eqb mine here b, append-nil)

      new_other : (h : q ≡ place_s) → (k ≡ n → ⊥) → Grows (within k r)
      new_other h d = unmoved (ap (λ (bs : List Block). get_or bs k no_block) (blocks_new letter_s f (is_s h) fs) ∙ go (dec_lt k n))
          (λ x. d (omega (arith, at_new h)))
        where
          go : Dec (k < n) → get_or (blocks letter_s fs ++ (record { head = f; body = [] } ∷ [])) k no_block ≡ block_at fs k
          go (yes a) = get_old (blocks letter_s fs) _ k no_block (omega (arith, cn))
          go (no a) = get_or-eq_default (blocks letter_s fs ++ (record { head = f; body = [] } ∷ [])) no_block
              (rw length-append (more_than n k (length (blocks letter_s fs)) cn d (omega arith)))
              ∙ sym (get_or-eq_default (blocks letter_s fs) no_block (omega (arith, cn)))

      new_here : (h : q ≡ place_s) → k ≡ n → Grows (within k r)
      unfolding fields_in with_letter keep
      new_here h d =
          let b : block_at (fs ++ (f ∷ [])) k ≡ record { head = f; body = [] } =
          ap (λ (bs : List Block). get_or bs k no_block) (blocks_new letter_s f (is_s h) fs)
          ∙ get_new (blocks letter_s fs) _ k no_block (omega (arith, cn)) in
          let z : fields_in (within k r) fs ≡ [] = none_within fs k r (omega (arith, cn)) (omega arith) (omega arith) in
          rw (b, z) (rw (of_letter r mine (omega arith) (λ x. omega (arith, at_new h)) (λ x. omega (arith, at_new h))))

      add_there : (h : q ≡ place_s → ⊥) → (k + 1 ≡ n → ⊥) → Grows (within k r)
      add_there h d = unmoved
          (ap (λ (bs : List Block). get_or bs k no_block) (blocks_add letter_s f (not_s h) fs)
          ∙ add_other f (blocks letter_s fs) k no_block (λ x. d (omega (arith, cn)))) (λ x. go x (kind_of q lo))
        where
          go : mine ≡ here → Kind q → ⊥
          go x (of_n a) = omega (arith, at_first a)
          go x (of_s a) = h a
          go x (inner a b) = d (omega (arith, at_inside a b, later a))
          go x (outer a) = omega (arith, at_behind a)

      add_this : (h : q ≡ place_s → ⊥) → k + 1 ≡ n → Grows (within k r)
      unfolding fields_in
      add_this h d =
          let b : block_at (fs ++ (f ∷ [])) k ≡ record { head = (block_at fs k).head; body = (block_at fs k).body ++ (f ∷ []) }
          = ap (λ (bs : List Block). get_or bs k no_block) (blocks_add letter_s f (not_s h) fs)
          ∙ add_here f (blocks letter_s fs) k no_block (omega (arith, cn)) in
          rw b (with_snoc (letter_at r) f (whole_block (block_at fs k))
          ∙ rw (of_letter r mine (omega arith) (λ x. to x (kind_of q lo)) (λ x. from x (kind_of q lo))))
        where
          to : q ≡ r → Kind q → mine ≡ here
          to x (of_n a) = absurd (omega arith)
          to x (of_s a) = absurd (h a)
          to x (inner a b) = omega (arith, at_inside a b)
          to x (outer a) = absurd (omega arith)

          from : mine ≡ here → Kind q → q ≡ r
          from x (of_n a) = absurd (omega (arith, first a))
          from x (of_s a) = absurd (h a)
          from x (inner a b) = omega (arith, at_inside a b)
          from x (outer a) = absurd (omega (arith, at_behind a))

      within_grows : Grows (within k r)
      within_grows = go (ℕ_discrete q place_s) (ℕ_discrete k n) (ℕ_discrete (k + 1) n)
        where
          go : Dec (q ≡ place_s) → Dec (k ≡ n) → Dec (k + 1 ≡ n) → Grows (within k r)
          go (yes h) (yes d) x = new_here h d
          go (yes h) (no d) x = new_other h d
          go (no h) d (yes x) = add_this h x
          go (no h) d (no x) = add_there h x

    pub grows : (t : Section) → Proper t → Grows t
    grows front v = front_grows
    grows (within k r) v = within_grows k r v.0 v.1 v.2
    grows (back r) v = back_grows r v.0 v.1
