-- Flatten: what it answers.
use Rattle.std.specs.Prelude.{List, ◌++◌, ℕ, min, ltb, length, drop}
use Rattle.definition.specs.Base.{Outcome, refused, accepted, on_accepted, pick}
use Rattle.definition.specs.Limits.{answer_bytes}
use Rattle.definition.specs.Signature.{Signature, read_signature}
use Rattle.definition.specs.Rule.{Rule, read_rule}
use Rattle.definition.specs.Group.{Group}
use Rattle.definition.specs.Walk.{State, group_name, walk_of}
use Rattle.definition.specs.Writer.{group_bytes_of}

-- The group that the walk leaves.
unfoldable pub group_left : Rule → State → Group
group_left rule state = record { name = group_name rule; variables = state.variables; rules = state.rules }

-- 31: 'answer longer than the buffer, of which at most 65,535 bytes are used'.
unfoldable pub fitted : ℕ → List ℕ → Outcome (List ℕ)
fitted room bytes = pick (ltb (min room answer_bytes) (length bytes)) (refused 31) (accepted bytes)

-- 'Given signature bytes, rule bytes and a buffer': the group's bytes, or a refusal.
unfoldable pub flatten_of : List ℕ → List ℕ → ℕ → Outcome (List ℕ)
flatten_of signature rule room =
    on_accepted (read_signature signature) λ (sig : Signature).
    on_accepted (read_rule sig rule) λ (r : Rule).
    on_accepted (walk_of sig r) λ (state : State).
    fitted room (group_bytes_of (group_left r state))

-- 'the lent buffer holds, after a refusal, exactly what it held'; 'after acceptance its front is the answer and the rest is untouched'.
abbrev pub laid_over : Outcome (List ℕ) → List ℕ → List ℕ
laid_over (refused n) out = out
laid_over (accepted bytes) out = bytes ++ drop (length bytes) out
