-- The order of a signature's fields: all T, then all P, then all F.
use Prim.Native.Nat.{ℕ, ◌≤◌, ◌<◌}
use native.Mathlib.Omega.{arith}
use native.Mathlib.Decide.{ℕ_discrete}
use mathlib.Core.Bool.{Bool, true, false}
use mathlib.Core.List.{List, [], ◌∷◌, ◌++◌, append-nil}
use mathlib.Core.Logic.{◌⊎◌, inl, inr, ⊎_elim}
use mathlib.Core.Path.{◌≡◌, refl, sym, ◌∙◌, ap}
use lib.Dec.{ltb}
use borrow.Author.Tests.{ne_eqb, ltb-true, ltb-false}
use Rattle.definition.specs.Base.{any, has, keep, when}
use Rattle.definition.specs.Letters.{letter_t, letter_p, letter_f, start}
use Rattle.definition.specs.Records.{Field, Fields, end, bad, ◌▸◌, in_front, follows, placed, fields_of, with_letter}
use Rattle.definition.specs.Signature.{signature_grammar, signature_part}
use Rattle.laws.proofs.Lists.{never}
use Rattle.records.proofs.Lists.{keep_append, letter_yes, letter_no}

-- A field kept is one of the letter.
kept_first : (letter : ℕ) (fs : List Field) {g : Field} {gs : List Field} → with_letter letter fs ≡ g ∷ gs → g.letter ≡ letter
unfolding with_letter keep
kept_first letter [] e = let z : ◌≡◌ {A = ℕ} 0 1 = cc in absurd (omega arith)
kept_first letter (f ∷ fs) {g} {gs} e = go (ℕ_discrete f.letter letter) (λ k. kept_first letter fs k)
  where
    go : Dec (f.letter ≡ letter) → (with_letter letter fs ≡ g ∷ gs → g.letter ≡ letter) → g.letter ≡ letter
    go (yes q) r = let o = letter_yes letter {f = f} {fs = fs} refl q in let same : f ≡ g = cc in rw (← same) q
    go (no q) r = r (sym (letter_no letter {f = f} {fs = fs} refl q) ∙ e)

-- Where the fields of a letter stand in front of the rest:
module _ (letter : ℕ) {f : Field} {fs gs : List Field} (rest : List Field) (e : gs ≡ f ∷ fs) (h : gs ≡ with_letter letter gs ++ rest) where
  -- behind one of them the others do,
  pub front_same : f.letter ≡ letter → fs ≡ with_letter letter fs ++ rest
  front_same q = let o = letter_yes letter e q in cc

  -- and where the first is none of them, there is none.
  pub front_other : (f.letter ≡ letter → ⊥) → with_letter letter gs ≡ []
  front_other q = go (with_letter letter gs) refl
    where
      go : (ks : List Field) → with_letter letter gs ≡ ks → with_letter letter gs ≡ []
      go [] k = k
      go (g ∷ ks) k = let same : f ≡ g = cc in absurd (q (rw same (kept_first letter gs k)))

-- Of the fields of a letter all are of it, and none of another.
kept_again : (letter : ℕ) (fs : List Field) → with_letter letter (with_letter letter fs) ≡ with_letter letter fs
unfolding with_letter keep
kept_again letter [] = refl
kept_again letter (f ∷ fs) = go (ℕ_discrete f.letter letter) (kept_again letter fs)
  where
    go : Dec (f.letter ≡ letter) → with_letter letter (with_letter letter fs) ≡ with_letter letter fs
        → with_letter letter (with_letter letter (f ∷ fs)) ≡ with_letter letter (f ∷ fs)
    go (yes q) r = rw (letter_yes letter {f = f} {fs = fs} refl q) (letter_yes letter {fs = with_letter letter fs} refl q ∙ rw r)
    go (no q) r = rw (letter_no letter {f = f} {fs = fs} refl q) r

kept_other : (a b : ℕ) → (a ≡ b → ⊥) → (fs : List Field) → with_letter a (with_letter b fs) ≡ []
unfolding with_letter keep
kept_other a b n [] = refl
kept_other a b n (f ∷ fs) = go (ℕ_discrete f.letter b) (kept_other a b n fs)
  where
    go : Dec (f.letter ≡ b) → with_letter a (with_letter b fs) ≡ [] → with_letter a (with_letter b (f ∷ fs)) ≡ []
    go (yes q) r = rw (letter_yes b {f = f} {fs = fs} refl q) (letter_no a {fs = with_letter b fs} refl (λ e. n (sym e ∙ q)) ∙ r)
    go (no q) r = rw (letter_no b {f = f} {fs = fs} refl q) r

-- A letter is T, P or F, and not above the one before it, where there is one: T is above P, and P above F.
abbrev Letter : ℕ → Type 0
Letter letter = (letter ≡ letter_t) ⊎ ((letter ≡ letter_p) ⊎ (letter ≡ letter_f))

module _ (behind letter : ℕ) where
  not_above : 0 < behind → behind < letter → Letter letter → follows signature_grammar.places behind letter ≡ false
  unfolding follows any has
  not_above z h (inl q) = rw (q, ne_eqb start behind (λ e. omega arith), ne_eqb letter_t behind (λ e. omega arith))
  not_above z h (inr (inl q)) =
      rw (q, ne_eqb start behind (λ e. omega arith), ne_eqb letter_t behind (λ e. omega arith), ne_eqb letter_p behind (λ e. omega arith))
  not_above z h (inr (inr q)) =
      rw (
        q,
        ne_eqb start behind (λ e. omega arith),
        ne_eqb letter_t behind (λ e. omega arith),
        ne_eqb letter_p behind (λ e. omega arith),
        ne_eqb letter_f behind (λ e. omega arith),
      )

  module _ (e : follows signature_grammar.places behind letter ≡ true) where
    is_letter : Letter letter
    unfolding follows any has
    is_letter = go (ℕ_discrete letter letter_t) (ℕ_discrete letter letter_p) (ℕ_discrete letter letter_f)
      where
        go : Dec (letter ≡ letter_t) → Dec (letter ≡ letter_p) → Dec (letter ≡ letter_f) → Letter letter
        go (yes t) p f = inl t
        go (no t) (yes p) f = inr (inl p)
        go (no t) (no p) (yes f) = inr (inr f)
        go (no t) (no p) (no f) =
            never e (rw (ne_eqb letter_t letter (λ q. t (sym q)), ne_eqb letter_p letter (λ q. p (sym q)), ne_eqb letter_f letter (λ q. f (sym q))))

    is_low : 0 < behind → letter ≤ behind
    is_low z = go (ltb behind letter) refl
      where
        go : (t : Bool) → ltb behind letter ≡ t → letter ≤ behind
        go true q = never e (not_above z (ltb-true behind letter q) is_letter)
        go false q = ltb-false behind letter q

-- Each letter may stand behind the one before it.
data Falling : ℕ → List Field → Type 0 where
  done : {behind : ℕ} → Falling behind []
  next : {behind : ℕ} {f : Field} {fs : List Field} → follows signature_grammar.places behind f.letter ≡ true → Falling f.letter fs
      → Falling behind (f ∷ fs)

-- So it is in a signature's part,
falling : (behind : ℕ) (fs : Fields) → Falling behind (placed signature_grammar behind fs).fields
unfolding placed
falling behind end = done
falling behind bad = done
falling behind (f ▸ fs) = go (follows signature_grammar.places behind f.letter) refl (falling f.letter fs)
  where
    go : (t : Bool) → follows signature_grammar.places behind f.letter ≡ t → Falling f.letter (placed signature_grammar f.letter fs).fields
        → Falling behind (when t (λ _. in_front f (placed signature_grammar f.letter fs)) (λ _. record { fields = []; whole = false })).fields
    go true e r = next e r
    go false e r = done

-- A letter above does not come back,
gone : (letter : ℕ) {behind : ℕ} {fs : List Field} → Falling behind fs → 0 < behind → behind < letter → with_letter letter fs ≡ []
unfolding with_letter keep
gone letter done z h = refl
gone letter (next {behind} {f} {fs} e r) z h =
    let l : f.letter ≤ behind = is_low behind f.letter e z in
    let p : 0 < f.letter = ⊎_elim (λ q. omega arith) (⊎_elim (λ q. omega arith) (λ q. omega arith)) (is_letter behind f.letter e) in
    letter_no letter {fs = fs} refl (λ q. omega arith) ∙ gone letter r p (omega arith)

-- so that they stand in order.
abbrev Ordered : List Field → Type 0
Ordered fs = fs ≡ with_letter letter_t fs ++ (with_letter letter_p fs ++ with_letter letter_f fs)

module _ (f : Field) (fs : List Field) (r : Falling f.letter fs) (h : Ordered fs) where
  first : (letter : ℕ) → f.letter ≡ letter → with_letter letter (f ∷ fs) ≡ f ∷ with_letter letter fs
  first letter q = letter_yes letter refl q

  other : (letter : ℕ) → (f.letter ≡ letter → ⊥) → with_letter letter (f ∷ fs) ≡ with_letter letter fs
  other letter q = letter_no letter refl q

  in_front_lem : Letter f.letter → Ordered (f ∷ fs)
  in_front_lem (inl q) = rw (first letter_t q, other letter_p (λ e. omega arith), other letter_f (λ e. omega arith)) (ap (λ (gs : List Field). f ∷ gs) h)
  in_front_lem (inr (inl q)) =
      let t = gone letter_t r (omega arith) (omega arith) in
      rw (other letter_t (λ e. omega arith), first letter_p q, other letter_f (λ e. omega arith), t) (ap (λ (gs : List Field). f ∷ gs) (h ∙ rw t))
  in_front_lem (inr (inr q)) =
      let t = gone letter_t r (omega arith) (omega arith) in
      let p = gone letter_p r (omega arith) (omega arith) in
      rw (other letter_t (λ e. omega arith), other letter_p (λ e. omega arith), first letter_f q, t, p) (ap (λ (gs : List Field). f ∷ gs) (h ∙ rw (t, p)))

in_order : {behind : ℕ} {fs : List Field} → Falling behind fs → Ordered fs
unfolding with_letter keep
in_order done = refl
in_order (next {behind} {f} {fs} e r) = in_front_lem f fs r (in_order r) (is_letter behind f.letter e)

-- A signature's fields, those behind its T, and those behind its P.
module _ (s : List ℕ) where
  abbrev pub fields : List Field
  fields = (signature_part s).fields

  abbrev pub behind_t : List Field
  behind_t = with_letter letter_p fields ++ with_letter letter_f fields

  abbrev pub behind_p : List Field
  behind_p = with_letter letter_f fields

  pub preds_same : with_letter letter_p behind_t ≡ with_letter letter_p fields
  unfolding with_letter
  preds_same = rw (keep_append, kept_again letter_p fields, kept_other letter_p letter_f (λ q. omega arith) fields, append-nil)

  pub funcs_same : with_letter letter_f behind_p ≡ with_letter letter_f fields
  funcs_same = kept_again letter_f fields

  pub types_front : fields ≡ with_letter letter_t fields ++ behind_t
  unfolding signature_part
  types_front = in_order (falling start (fields_of s))

  pub preds_front : behind_t ≡ with_letter letter_p behind_t ++ behind_p
  preds_front = rw preds_same

  pub funcs_front : behind_p ≡ with_letter letter_f behind_p ++ []
  funcs_front = rw (funcs_same, append-nil)
