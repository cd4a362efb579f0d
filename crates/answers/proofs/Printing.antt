-- What is printed for each input, and how it stands at the front of a buffer.
use mathlib.Core.List.{List, [], ◌∷◌, ◌++◌}
use mathlib.Core.Path.{◌≡◌, refl, ◌∙◌}
use Prim.Native.Nat.{ℕ, suc, ◌+◌, ◌*◌, ◌-◌, ◌≤◌, ◌<◌}
use lib.ListN.{length, take, drop, length-append, length-drop}
use lib.Seq.{take_all}
use native.Mathlib.Nat.{zero-add}
use native.Mathlib.Omega.{arith}
use borrow.Author.Tests.{lt-leb, le-leb}
use Rattle.definition.specs.Base.{Outcome, refused, accepted}
use Rattle.definition.specs.Desk.{desk_of, printed, refused_word, newline}
use Rattle.definition.specs.Flatten.{flatten_of, laid_over}
use Rattle.flatten.specs.Answers.{answer_of}
use Rattle.definition.specs.Limits.{answer_bytes, number_digits}
use Rattle.definition.specs.Names.{decimal}
use Rattle.records.specs.Buffer.{Put}
use Rattle.records.specs.Places.{two_at}
use Rattle.laws.proofs.NameLaws.{digits_few}

-- Missing input: not even the length, or less than it tells of.
pub short : (s : List ℕ) → length s < 2 → desk_of s ≡ printed (refused 2)
unfolding desk_of
short [] h = refl
short (a ∷ []) h = refl
short (a ∷ b ∷ s) h = absurd (omega arith)

pub missing : (s : List ℕ) → 2 ≤ length s → length s - 2 < two_at s 0 → desk_of s ≡ printed (refused 2)
unfolding desk_of
missing [] h l = absurd (omega arith)
missing (a ∷ []) h l = absurd (omega arith)
missing (a ∷ b ∷ s) h l = let k : length s < a * 256 + b = omega arith in rw (lt-leb _ _ k)

-- All of it there.
pub there : (a b : ℕ) (s : List ℕ) → a * 256 + b ≤ length s
    → desk_of (a ∷ b ∷ s) ≡ printed (flatten_of (take (a * 256 + b) s) (drop (a * 256 + b) s) answer_bytes)
unfolding desk_of
there a b s l = rw (le-leb _ _ l)

whole : (s : List ℕ) → 2 ≤ length s → two_at s 0 ≤ length s - 2
    → desk_of s ≡ printed (flatten_of (take (two_at s 0) (drop 2 s)) (drop (2 + two_at s 0) s) answer_bytes)
whole [] h l = absurd (omega arith)
whole (a ∷ []) h l = absurd (omega arith)
whole (a ∷ b ∷ s) h l = let e : 2 + (a * 256 + b) ≡ suc (suc (a * 256 + b)) = omega arith in there a b s (omega arith) ∙ rw e

-- The same from the slices that are read.
pub answered : (s : List ℕ) {size room : ℕ} → 2 ≤ length s → size ≡ two_at s 0 → size ≤ length s - 2 → room ≡ answer_bytes
    → desk_of s ≡ printed (flatten_of (take (2 + size - 2) (drop 2 s)) (take (length s - (2 + size)) (drop (2 + size) s)) room)
answered s {size} h e l m =
    let f : 2 + size - 2 ≡ size = omega arith in
    let g : length (drop (2 + size) s) ≤ length s - (2 + size) = rw length-drop (omega arith) in
    whole s h (rw (← e) l) ∙ rw (f, take_all _ _ g, e, m)

-- A refusal's line is short.
few : (n : ℕ) → length (printed (refused n)) ≤ 14
unfolding printed
few n =
    let d : length (decimal n) ≤ 5 = digits_few number_digits n in
    let e : length (refused_word ++ decimal n) ≡ 8 + length (decimal n) = length-append refused_word (decimal n) in
    let f : length (refused_word ++ decimal n ++ (newline ∷ [])) ≡ length (refused_word ++ decimal n) + 1 =
    length-append (refused_word ++ decimal n) (newline ∷ []) in
    omega arith

-- What is printed stands at the buffer's front, and the rest is as it was.
abbrev AtFront : ℕ → List ℕ → List ℕ → List ℕ → Type 0
AtFront r out₀ out answer = (r ≡ length answer) × (out ≡ laid_over (accepted answer) out₀)

-- So it is no longer than the buffer.
pub inside : (input out₀ : List ℕ) {r : ℕ} {out : List ℕ} → AtFront r out₀ out (desk_of input) → r ≤ length out
inside input out₀ s = rw s.1 (rw length-append (omega (arith, s.0)))

pub line : (n : ℕ) (out₀ : List ℕ) {out answer : List ℕ} {r : ℕ} → Put out₀ out (printed (refused n)) 0 r → length out₀ ≡ answer_bytes
    → answer ≡ printed (refused n) → AtFront r out₀ out answer
line n out₀ h l e =
    let k : length (printed (refused n)) ≤ 14 = few n in
    rw e (omega (arith, h.size), h.same (omega arith) (omega arith) ∙ rw zero-add)

-- By what flatten answered: a group stands there already; a refusal left the buffer as it was, and its line comes there.
pub group_stands : {n : ℕ} (out₀ : List ℕ) {out answer : List ℕ} (o : Outcome (List ℕ)) → accepted n ≡ answer_of o → out ≡ laid_over o out₀
    → answer ≡ printed o → AtFront n out₀ out answer
unfolding printed
group_stands {n} out₀ (accepted group) a b e = let x : n ≡ length group = cc in rw e (x, b)
group_stands out₀ (refused k) a b e = let z : ◌≡◌ {A = ℕ} 0 1 = cc in absurd (omega arith)

pub line_stands : {n r : ℕ} (out₀ : List ℕ) {out₁ out answer : List ℕ} (o : Outcome (List ℕ)) → refused n ≡ answer_of o → out₁ ≡ laid_over o out₀
    → answer ≡ printed o → Put out₁ out (printed (refused n)) 0 r → length out₀ ≡ answer_bytes → AtFront r out₀ out answer
line_stands out₀ (accepted group) a b e h l = let z : ◌≡◌ {A = ℕ} 0 1 = cc in absurd (omega arith)
line_stands {n} out₀ (refused k) a b e h l = let x : n ≡ k = cc in line n out₀ (rw b at h) l (e ∙ rw x)
