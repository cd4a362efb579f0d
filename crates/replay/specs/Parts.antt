-- What a part's length is known to satisfy.
use Rattle.std.specs.Prelude.{ℕ, ◌≤◌, IfOk, Result}
use Rattle.replay.specs.declared.Stop.{Stop}

-- A part that was kept lies in its buffer.
abbrev pub Within : Result ℕ Stop → ℕ → Type 0
Within r size = IfOk r (λ n. n ≤ size)
