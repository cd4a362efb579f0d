-- The order of a group's fields: G, the W fields, and per rule U, the B fields, the H fields.
use Prim.Native.Nat.{ℕ}
use native.Mathlib.Omega.{arith}
use mathlib.Core.Bool.{Bool, true, false, not, ◌&&◌, ◌||◌}
use mathlib.Core.List.{List, [], ◌∷◌}
use mathlib.Core.Logic.{◌⊎◌, inl, inr, ⊎_elim}
use mathlib.Core.Path.{◌≡◌, refl, sym}
use lib.Dec.{eqb}
use borrow.Author.Tests.{eqb-true}
use Rattle.definition.specs.Base.{any, has, keep}
use Rattle.definition.specs.Letters.{letter_g, letter_w, letter_u, letter_b, letter_h, start}
use Rattle.definition.specs.Records.{Field, follows, with_letter}
use Rattle.definition.specs.Group.{group_grammar}
use Rattle.laws.proofs.Lists.{never}
use Rattle.group.specs.Sections.{trailing, Ordered, AtRule}
use Rattle.group.proofs.Ordered.{behind_leading, absent}

-- A letter that may stand behind another, by cases.
data Next (behind l : ℕ) : Type 0 where
  title : l ≡ letter_g → has behind (start ∷ []) ≡ true → Next behind l
  variable : l ≡ letter_w → has behind (letter_g ∷ letter_w ∷ []) ≡ true → Next behind l
  rule : l ≡ letter_u → has behind (letter_g ∷ letter_w ∷ letter_u ∷ letter_b ∷ letter_h ∷ []) ≡ true → Next behind l
  premise : l ≡ letter_b → has behind (letter_u ∷ letter_b ∷ []) ≡ true → Next behind l
  conclusion : l ≡ letter_h → has behind (letter_u ∷ letter_b ∷ letter_h ∷ []) ≡ true → Next behind l

one : (a b rest : Bool) → ((a && b) || rest) ≡ true → ((a ≡ true) × (b ≡ true)) ⊎ (rest ≡ true)
one true true rest e = inl (refl, refl)
one true false rest e = inr e
one false b rest e = inr e

next : (behind l : ℕ) → follows group_grammar.places behind l ≡ true → Next behind l
unfolding follows any
next behind l e =
    ⊎_elim (λ q. title (sym (eqb-true letter_g l q.0)) q.1) (λ e.
    ⊎_elim (λ q. variable (sym (eqb-true letter_w l q.0)) q.1) (λ e.
    ⊎_elim (λ q. rule (sym (eqb-true letter_u l q.0)) q.1) (λ e.
    ⊎_elim (λ q. premise (sym (eqb-true letter_b l q.0)) q.1) (λ e.
    ⊎_elim (λ q. conclusion (sym (eqb-true letter_h l q.0)) q.1) (λ e. never e refl)
    (one (eqb letter_h l) _ _ e)) (one (eqb letter_b l) _ _ e)) (one (eqb letter_u l) _ _ e)) (one (eqb letter_w l) _ _ e)) (one (eqb letter_g l) _ _ e)

-- Any letter of the record may stand last, and is not where it begins.
pub follows_last : (behind l : ℕ) → follows group_grammar.places behind l ≡ true → not (eqb l start) ≡ has l group_grammar.last
unfolding has any
follows_last behind l e = go (next behind l e)
  where
    go : Next behind l → not (eqb l start) ≡ has l group_grammar.last
    go (title q h) = rw q
    go (variable q h) = rw q
    go (rule q h) = rw q
    go (premise q h) = rw q
    go (conclusion q h) = rw q

-- The first field is the G.
pub at_title : (f : Field) (fs : List Field) → Ordered group_grammar start (f ∷ fs) → (f.letter ≡ letter_g) × Ordered group_grammar letter_g fs
unfolding Ordered has any
at_title f fs o = let q = first f.letter (next start f.letter o.0) in (q, rw q at o.1)
  where
    first : (l : ℕ) → Next start l → l ≡ letter_g
    first l (title e h) = e
    first l (variable e h) = never h refl
    first l (rule e h) = never h refl
    first l (premise e h) = never h refl
    first l (conclusion e h) = never h refl

-- Behind the W fields come the rules.
pub after_variables : (fs : List Field) → Ordered group_grammar letter_g fs → AtRule (trailing letter_w fs)
unfolding Ordered has any
after_variables fs o = behind_leading group_grammar letter_w Before AtRule tt (inr refl) other letter_g fs (inl refl) o
  where
    Before : ℕ → Type 0
    Before b = (b ≡ letter_g) ⊎ (b ≡ letter_w)

    only : (b l : ℕ) → Before b → (l ≡ letter_w → ⊥) → Next b l → l ≡ letter_u
    only b l p n (title e h) = ⊎_elim (λ q. never h (rw q)) (λ q. never h (rw q)) p
    only b l p n (variable e h) = absurd (n e)
    only b l p n (rule e h) = e
    only b l p n (premise e h) = ⊎_elim (λ q. never h (rw q)) (λ q. never h (rw q)) p
    only b l p n (conclusion e h) = ⊎_elim (λ q. never h (rw q)) (λ q. never h (rw q)) p

    other : (b : ℕ) (f : Field) (gs : List Field) → Before b → (f.letter ≡ letter_w → ⊥) → Ordered group_grammar b (f ∷ gs) → AtRule (f ∷ gs)
    other b f gs p n q = let u = only b f.letter p n (next b f.letter q.0) in (u, rw u at q.1)

-- Behind the B fields of a rule come its H fields.
pub after_premises : (fs : List Field) → Ordered group_grammar letter_u fs → Ordered group_grammar letter_h (trailing letter_b fs)
unfolding Ordered has any follows
after_premises fs o = behind_leading group_grammar letter_b Before (Ordered group_grammar letter_h) tt (inr refl) other letter_u fs (inl refl) o
  where
    Before : ℕ → Type 0
    Before b = (b ≡ letter_u) ⊎ (b ≡ letter_b)

    only : (b l : ℕ) → Before b → (l ≡ letter_b → ⊥) → Next b l → follows group_grammar.places letter_h l ≡ true
    only b l p n (title e h) = ⊎_elim (λ q. never h (rw q)) (λ q. never h (rw q)) p
    only b l p n (variable e h) = ⊎_elim (λ q. never h (rw q)) (λ q. never h (rw q)) p
    only b l p n (rule e h) = rw e
    only b l p n (premise e h) = absurd (n e)
    only b l p n (conclusion e h) = rw e

    other : (b : ℕ) (f : Field) (gs : List Field) → Before b → (f.letter ≡ letter_b → ⊥) → Ordered group_grammar b (f ∷ gs)
        → Ordered group_grammar letter_h (f ∷ gs)
    other b f gs p n q = (only b f.letter p n (next b f.letter q.0), q.1)

-- Behind those comes the next rule.
pub after_conclusions : (fs : List Field) → Ordered group_grammar letter_h fs → AtRule (trailing letter_h fs)
unfolding Ordered has any
after_conclusions fs o = behind_leading group_grammar letter_h (λ (b : ℕ). b ≡ letter_h) AtRule tt refl other letter_h fs refl o
  where
    only : (b l : ℕ) → b ≡ letter_h → (l ≡ letter_h → ⊥) → Next b l → l ≡ letter_u
    only b l p n (title e h) = never h (rw p)
    only b l p n (variable e h) = never h (rw p)
    only b l p n (rule e h) = e
    only b l p n (premise e h) = never h (rw p)
    only b l p n (conclusion e h) = absurd (n e)

    other : (b : ℕ) (f : Field) (gs : List Field) → b ≡ letter_h → (f.letter ≡ letter_h → ⊥) → Ordered group_grammar b (f ∷ gs) → AtRule (f ∷ gs)
    other b f gs p n q = let u = only b f.letter p n (next b f.letter q.0) in (u, rw u at q.1)

-- There is no second G, and no W behind a U.
pub no_title : (fs : List Field) → Ordered group_grammar letter_g fs → with_letter letter_g fs ≡ []
unfolding has any
no_title fs o = absent group_grammar letter_g Before (λ b l p e. step b l p (next b l e)) letter_g fs (λ q. omega arith) o
  where
    Before : ℕ → Type 0
    Before b = b ≡ start → ⊥

    starts : (b : ℕ) (t : Bool) → eqb start b ≡ t → (t || false) ≡ true → b ≡ start
    starts b true e h = sym (eqb-true start b e)
    starts b false e h = never h refl

    step : (b l : ℕ) → Before b → Next b l → (l ≡ letter_g → ⊥) × Before l
    step b l p (title e h) = absurd (p (starts b (eqb start b) refl h))
    step b l p (variable e h) = (λ q. omega arith, λ q. omega arith)
    step b l p (rule e h) = (λ q. omega arith, λ q. omega arith)
    step b l p (premise e h) = (λ q. omega arith, λ q. omega arith)
    step b l p (conclusion e h) = (λ q. omega arith, λ q. omega arith)

pub no_variables : (fs : List Field) → AtRule fs → with_letter letter_w fs ≡ []
unfolding with_letter keep has any
no_variables [] o = refl
no_variables (f ∷ fs) o = rw o.0 (absent group_grammar letter_w Before (λ b l p e. step b l p (next b l e)) letter_u fs (inl refl) o.1)
  where
    Before : ℕ → Type 0
    Before b = (b ≡ letter_u) ⊎ ((b ≡ letter_b) ⊎ (b ≡ letter_h))

    step : (b l : ℕ) → Before b → Next b l → (l ≡ letter_w → ⊥) × Before l
    step b l p (title e h) = ⊎_elim (λ q. never h (rw q)) (⊎_elim (λ q. never h (rw q)) (λ q. never h (rw q))) p
    step b l p (variable e h) = ⊎_elim (λ q. never h (rw q)) (⊎_elim (λ q. never h (rw q)) (λ q. never h (rw q))) p
    step b l p (rule e h) = (λ q. omega arith, inl e)
    step b l p (premise e h) = (λ q. omega arith, inr (inl e))
    step b l p (conclusion e h) = (λ q. omega arith, inr (inr e))
