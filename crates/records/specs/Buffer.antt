-- What a writer leaves in a buffer. It writes nothing that does not fit, but counts it, so at an empty buffer it only measures.
use Rattle.std.specs.Prelude.{List, [], ◌∷◌, ◌++◌, ◌≡◌, ℕ, ◌+◌, ◌/◌, ◌%◌, ◌≤◌, min, length, take, drop}
use Rattle.definition.specs.Limits.{answer_bytes}

-- Just above the bytes that an answer may have.
abbrev pub count_limit : ℕ
count_limit = answer_bytes + 1

-- A count that stops there.
abbrev pub capped : ℕ → ℕ
capped n = min n count_limit

-- From out₀, p was put at `at`, and ends at r.
pub record Put (out₀ out p : List ℕ) (at r : ℕ) : Type 0 where
  pub size : r ≡ capped (at + length p)
  pub long : length out ≡ length out₀
  pub same : at + length p ≤ length out₀ → at + length p ≤ count_limit → out ≡ take at out₀ ++ (p ++ drop (at + length p) out₀)

-- What stands before a field's content: its letter and its length.
abbrev pub head_bytes : ℕ → ℕ → List ℕ
head_bytes letter len = letter ∷ len / 256 ∷ len % 256 ∷ []
