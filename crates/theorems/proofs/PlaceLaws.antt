-- Where a record's fields stand in its bytes: one behind the other, each with three bytes more than its content, so that counting the
-- bytes of the fields before a rule's first conclusion gives its place.
use Prim.Native.Nat.{ℕ, zero, suc, ◌+◌, ◌*◌}
use native.Mathlib.Omega.{arith}
use mathlib.Core.Path.{◌≡◌, refl, ◌∙◌}
use mathlib.Core.Bool.{Bool, true, false}
use mathlib.Core.Option.{some}
use mathlib.Core.List.{List, [], ◌∷◌, ◌++◌}
use lib.Dec.{eqb, leb}
use lib.ListN.{length, take, drop, get_elem?, take-append-drop}
use lib.Seq.{drop-drop, length-take-le}
use borrow.Author.Tests.{leb-true}
use Rattle.definition.specs.Base.{pick, when, cons_if, keep}
use Rattle.definition.specs.Letters.{letter_u, letter_h}
use Rattle.definition.specs.Records.{Field, bad, ◌▸◌, Grammar, Block, in_front, cut, fields_of, follows, placed, with_letter, up_to, blocks}
use Rattle.definition.specs.Scope.{field_size, conclusion_at}

-- A field stands at a position: its letter, two bytes of length, its content.
pub record FieldAt (bytes : List ℕ) (at : ℕ) (f : Field) : Type 0 where
  pub high : ℕ
  pub low : ℕ
  pub rest : List ℕ
  pub stands : drop at bytes ≡ f.letter ∷ high ∷ low ∷ (f.content ++ rest)

-- Fields stand one behind the other from a position on.
abbrev pub StandAt : List ℕ → ℕ → List Field → Type 0
StandAt bytes at [] = Unit {0}
StandAt bytes at (f ∷ fs) = FieldAt bytes at f × StandAt bytes (at + field_size f) fs

-- Behind a field's letter and length.
behind_three : (n : ℕ) → 3 + n ≡ suc (suc (suc n))
behind_three n = omega arith

-- A record's fields stand one behind the other.
stand_from : (g : Grammar) (bytes : List ℕ) (k behind at : ℕ) (s : List ℕ) → drop at bytes ≡ s → StandAt bytes at (placed g behind (cut k s)).fields
unfolding placed cut
stand_from g bytes zero behind at [] e = tt
stand_from g bytes zero behind at (l ∷ s) e = tt
stand_from g bytes (suc k) behind at [] e = tt
stand_from g bytes (suc k) behind at (l ∷ []) e = tt
stand_from g bytes (suc k) behind at (l ∷ h ∷ []) e = tt
stand_from g bytes (suc k) behind at (l ∷ h ∷ m ∷ s) e = go (leb n (length s)) refl (λ i. stand_from g bytes k l (at + (3 + length (take n s))) (drop n s) i)
  where
    n : ℕ
    n = h * 256 + m

    f : Field
    f = record { letter = l; content = take n s }

    both : (b : Bool) → FieldAt bytes at f → StandAt bytes (at + field_size f) (placed g l (cut k (drop n s))).fields
        → StandAt bytes at (when b (λ _. in_front f (placed g l (cut k (drop n s)))) (λ _. record { fields = []; whole = false })).fields
    both true x y = (x, y)
    both false x y = tt

    go : (a : Bool) → leb n (length s) ≡ a
        → (drop (at + field_size f) bytes ≡ drop n s → StandAt bytes (at + field_size f) (placed g l (cut k (drop n s))).fields)
        → StandAt bytes at (placed g behind (when a (λ _. f ▸ cut k (drop n s)) (λ _. bad))).fields
    go true p ih = both (follows g.places behind l) (record { high = h; low = m; rest = drop n s; stands = e ∙ rw (take-append-drop n s) })
        (ih (rw (length-take-le n s (leb-true n (length s) p), ← drop-drop (3 + n) at bytes, e, behind_three n)))
    go false p ih = tt

-- A record's fields stand from its first byte on.
pub fields_stand : (g : Grammar) (behind : ℕ) (bytes : List ℕ) → StandAt bytes 0 (placed g behind (fields_of bytes)).fields
unfolding fields_of
fields_stand g behind bytes = stand_from g bytes (length bytes) behind 0 bytes refl

-- The first conclusion behind a rule's name stands where it is sought.
first_conclusion : (bytes : List ℕ) (fs : List Field) (at : ℕ) (f : Field) (hs : List Field) → with_letter letter_h (up_to letter_u fs) ≡ f ∷ hs
    → StandAt bytes at fs
    → FieldAt bytes (conclusion_at zero fs at) f
unfolding with_letter keep up_to conclusion_at
first_conclusion bytes [] at f hs e h = let z : ◌≡◌ {A = ℕ} 0 1 = cc in absurd (omega arith)
first_conclusion bytes (x ∷ xs) at f hs e h = go (eqb x.letter letter_u) (λ i. first_conclusion bytes xs (at + field_size x) f hs i h.1) e
  where
    there : (b : Bool) → (with_letter letter_h (up_to letter_u xs) ≡ f ∷ hs → FieldAt bytes (conclusion_at zero xs (at + field_size x)) f)
        → cons_if b x (with_letter letter_h (up_to letter_u xs)) ≡ f ∷ hs → FieldAt bytes (pick b at (conclusion_at zero xs (at + field_size x))) f
    there true ih e = let d : x ≡ f = cc in rw d at h.0
    there false ih e = ih e

    go : (b : Bool) → (with_letter letter_h (up_to letter_u xs) ≡ f ∷ hs → FieldAt bytes (conclusion_at zero xs (at + field_size x)) f)
        → with_letter letter_h (pick b [] (x ∷ up_to letter_u xs)) ≡ f ∷ hs
        → FieldAt bytes (pick (eqb x.letter letter_h) at (conclusion_at zero xs (at + field_size x))) f
    go true ih e = let z : ◌≡◌ {A = ℕ} 0 1 = cc in absurd (omega arith)
    go false ih e = there (eqb x.letter letter_h) ih e

-- And so does that of the rule at a position.
pub conclusion_stands : (bytes : List ℕ) (fs : List Field) (position at : ℕ) (b : Block) (f : Field) (hs : List Field)
    → get_elem? (blocks letter_u fs) position ≡ some b → with_letter letter_h b.body ≡ f ∷ hs → StandAt bytes at fs
    → FieldAt bytes (conclusion_at (suc position) fs at) f
unfolding blocks conclusion_at
conclusion_stands bytes [] position at b f hs p e h = let z : ◌≡◌ {A = ℕ} 0 1 = cc in absurd (omega arith)
conclusion_stands bytes (x ∷ xs) position at b f hs p e h =
    go (eqb x.letter letter_u) position (λ i. conclusion_stands bytes xs i (at + field_size x) b f hs) p
  where
    go : (u : Bool) (i : ℕ)
        → ((j : ℕ) → get_elem? (blocks letter_u xs) j ≡ some b → with_letter letter_h b.body ≡ f ∷ hs → StandAt bytes (at + field_size x) xs
        → FieldAt bytes (conclusion_at (suc j) xs (at + field_size x)) f)
        → get_elem? (pick u (record { head = x; body = up_to letter_u xs } ∷ blocks letter_u xs) (blocks letter_u xs)) i ≡ some b
        → FieldAt bytes (conclusion_at (pick u i (suc i)) xs (at + field_size x)) f
    go true zero ih p = let d : up_to letter_u xs ≡ b.body = cc in first_conclusion bytes xs (at + field_size x) f hs (rw d e) h.1
    go true (suc i) ih p = ih i p e h.1
    go false i ih p = ih i p e h.1
