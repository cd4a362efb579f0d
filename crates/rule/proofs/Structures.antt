-- The structures, front to back.
use Prim.Native.Nat.{ℕ, ◌+◌, ◌≤◌, ◌<◌}
use native.Mathlib.Omega.{arith}
use native.Mathlib.Decide.{ℕ_discrete}
use native.Mathlib.Numerals.{add-one}
use mathlib.Core.List.{List, [], ◌∷◌}
use mathlib.Core.Logic.{⊎_elim}
use mathlib.Core.Option.{Option, none, some}
use mathlib.Core.Path.{◌≡◌, sym, ◌∙◌}
use lib.ListN.{length, get_or, drop, drop_of_length-le}
use lib.Seq.{drop-cons}
use Rattle.definition.specs.Letters.{letter_e}
use Rattle.definition.specs.Limits.{structure_limit}
use Rattle.definition.specs.Records.{Field, Block, with_letter}
use Rattle.definition.specs.Signature.{Signature}
use Rattle.definition.specs.Rule.{named_elements, structure_fault, body_fault, structures_fault}
use Rattle.std.proofs.Common.{Ok}
use Rattle.rule.specs.Layout.{no_block, place_s, section_from, number_of, within}
use Rattle.rule.specs.Elements.{element_fields, Known}
use Rattle.rule.specs.Answers.{HeadAt, Bodied, Structured, Kept, Holds}
use Rattle.rule.proofs.Bodies.{kept_fields, bodied_kept}

-- So many structures are checked: what is left gives the answer, and the index holds their elements.
pub record Going (sig : Signature) (s index : List ℕ) (bs : List Block) (k : ℕ) : Type 0 where
  pub left : structures_fault sig 0 bs ≡ structures_fault sig k (drop k bs)
  pub held : (j : ℕ) → j < k → element_fields s index j ≡ with_letter letter_e (get_or bs j no_block).body

module _ {s index₀ : List ℕ} {n : ℕ} {bs : List Block} (w : Structured s index₀ n bs) {index : List ℕ} (kept : Kept index₀ index 0) (k : ℕ) where
  in_blocks : k < n → k < length bs
  in_blocks h = ⊎_elim (λ e. omega arith) (λ e. omega (arith, e.1)) w.counted

  block_on : k < n → drop k bs ≡ get_or bs k no_block ∷ drop (k + 1) bs
  block_on h = let l : k < length bs = in_blocks h in rw (add-one, drop-cons bs k no_block)

  head_here : k < n → k ≤ structure_limit → HeadAt s (section_from index k place_s) (get_or bs k no_block).head
  unfolding section_from
  head_here h l = rw (kept.before (number_of (within k place_s)) (omega arith)) (w.head k h)

  module _ (sig : Signature) (g : Going sig s index bs k) where
    pub go_end : n ≤ k → k ≤ n → k ≤ structure_limit → none ≡ structures_fault sig 0 bs
    unfolding structures_fault
    go_end a b c = sym (g.left ∙ rw (past))
      where
        short : length bs ≤ k
        short = ⊎_elim (λ e. omega arith) (λ e. absurd (omega (arith, e.0))) w.counted

        past : drop k bs ≡ []
        past = drop_of_length-le bs short

    -- Structure k: what the check of its head told, then what that of its body told.
    module _ (lt : k < n) (known : Known s index k) where
      abbrev Head : Option ℕ → Type 0
      Head f = (h : Field) → HeadAt s (section_from index k place_s) h → f ≡ structure_fault k h

      abbrev Body : Option ℕ → Type 0
      Body f = (fs : List Field) → Bodied s index k fs → f ≡ body_fault sig (named_elements fs) fs

      pub go_head : {m : ℕ} → Head (some m) → some m ≡ structures_fault sig 0 bs
      unfolding structures_fault
      go_head head = sym (g.left ∙ rw (block_on lt, ← (head _ (head_here lt known.few))))

      module _ (head : Head none) (below : k < structure_limit) where
        here : Bodied s index k (get_or bs k no_block).body
        here = bodied_kept below kept (w.body k lt below)

        pub go_body : {m : ℕ} → Body (some m) → some m ≡ structures_fault sig 0 bs
        unfolding structures_fault
        go_body body = sym (g.left ∙ rw (block_on lt, ← (head _ (head_here lt known.few)), ← (body _ here)))

        onward : Body none → structures_fault sig k (drop k bs) ≡ structures_fault sig (k + 1) (drop (k + 1) bs)
        unfolding structures_fault
        onward body = rw (block_on lt, ← (head _ (head_here lt known.few)), ← (body _ here))

        -- The next structure.
        pub go_next : {index' : List ℕ} {u : Unit} → Body none → Kept index index' k
            → ((fs : List Field) → Bodied s index k fs → Holds (Ok u) s index' k (with_letter letter_e fs))
            → Going sig s index' bs (k + 1)
        go_next {index'} body kk holds = record { left = g.left ∙ onward body; held = λ j l. go j l (ℕ_discrete j k) }
          where
            go : (j : ℕ) → j < k + 1 → Dec (j ≡ k) → element_fields s index' j ≡ with_letter letter_e (get_or bs j no_block).body
            go j l (yes q) = rw q (holds _ here).is
            go j l (no q) = let m : j < k = omega arith in kept_fields kk m (known.elements j m) ∙ g.held j m
