-- Reading may stop: a rule that is too long is refused whatever follows.
use mathlib.Core.List.{List, [], ◌∷◌}
use mathlib.Core.Path.{◌≡◌, refl, sym, ◌∙◌}
use mathlib.Core.Bool.{Bool, true, false}
use lib.Dec.{leb}
use Prim.Native.Nat.{ℕ, ◌+◌, ◌*◌, ◌≤◌, ◌<◌}
use lib.ListN.{length, take, drop, length-drop}
use lib.Seq.{take_all, take-take, length-take-le}
use native.Mathlib.Omega.{arith}
use borrow.Author.Tests.{lt-ltb, leb-true, leb-false}
use Rattle.definition.specs.Base.{Outcome, refused, accepted, on_accepted}
use Rattle.definition.specs.Desk.{desk_of}
use Rattle.definition.specs.Flatten.{flatten_of, fitted, group_left}
use Rattle.definition.specs.Limits.{answer_bytes, rule_bytes}
use Rattle.definition.specs.Rule.{Rule, read_rule}
use Rattle.definition.specs.Signature.{Signature, read_signature}
use Rattle.definition.specs.Walk.{State, walk_of}
use Rattle.definition.specs.Writer.{group_bytes_of}
use Rattle.records.specs.Places.{two_at}
use Rattle.answers.proofs.Printing.{there}

too_long : (g : Signature) (rule : List ℕ) → rule_bytes < length rule → read_rule g rule ≡ refused 1
unfolding read_rule
too_long g rule l = rw (lt-ltb _ _ l)

-- Two rules that are too long are answered alike.
alike : (sig r q : List ℕ) (room : ℕ) → rule_bytes < length r → rule_bytes < length q → flatten_of sig r room ≡ flatten_of sig q room
unfolding flatten_of
alike sig r q room h k = go (read_signature sig)
  where
    after : List ℕ → Signature → Outcome (List ℕ)
    after rule g = on_accepted (read_rule g rule) λ (x : Rule). on_accepted (walk_of g x) λ (state : State). fitted room (group_bytes_of (group_left x state))

    go : (o : Outcome Signature) → on_accepted o (after r) ≡ on_accepted o (after q)
    go (refused n) = refl
    go (accepted g) = rw (too_long g r h, too_long g q k)

-- Behind the length: the longest signature that it tells of, and one byte more than a rule may have.
cut_short : (a b k : ℕ) (s : List ℕ) → a * 256 + b < 65536 → 65535 + (rule_bytes + 1) ≤ k → k ≤ length s → desk_of (a ∷ b ∷ take k s) ≡ desk_of (a ∷ b ∷ s)
cut_short a b k s h i j =
    let t : length (take k s) ≡ k = length-take-le _ _ j in
    let m : a * 256 + b ≤ length (take k s) = omega arith in
    let n : a * 256 + b ≤ length s = omega arith in
    let p : rule_bytes < length (drop (a * 256 + b) (take k s)) = rw length-drop (omega arith) in
    let q : rule_bytes < length (drop (a * 256 + b) s) = rw length-drop (omega arith) in
    let e : take (a * 256 + b) (take k s) ≡ take (a * 256 + b) s = take-take (a * 256 + b) k s (omega arith) in
    let f : flatten_of (take (a * 256 + b) s) (drop (a * 256 + b) (take k s)) answer_bytes
    ≡ flatten_of (take (a * 256 + b) s) (drop (a * 256 + b) s) answer_bytes = alike _ _ _ _ p q in
    there a b (take k s) m ∙ (rw (e, f) (sym (there a b s n)))

-- Of an input as bytes, whose length is below 65,536, the first 98,306 bytes are enough.
pub enough : (s : List ℕ) → two_at s 0 < 65536 → desk_of (take 98306 s) ≡ desk_of s
enough [] h = refl
enough (a ∷ []) h = refl
enough (a ∷ b ∷ s) h = go (leb (length s) 98304) refl
  where
    go : (t : Bool) → leb (length s) 98304 ≡ t → desk_of (take 98306 (a ∷ b ∷ s)) ≡ desk_of (a ∷ b ∷ s)
    go true e = let l : length s ≤ 98304 = leb-true _ _ e in rw (take_all 98304 s l)
    go false e = let l : 98304 < length s = leb-false _ _ e in cut_short a b 98304 s h (omega arith) (omega arith)
