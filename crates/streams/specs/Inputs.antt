-- What is known of an input that was read.
use Rattle.std.specs.Prelude.{ℕ, ◌<◌, List, length, take, Option, Some, None}
use Rattle.std.specs.Io.KnownBytes.{Consumes, IsAtEnd}

-- Where a reader's bytes are known: what was read are the next of them, and a buffer that is not full has the last.
abbrev pub Taken : Option ℕ → Option (List ℕ) → Option (List ℕ) → List ℕ → Type 0
Taken (Some n) before after buffer = Consumes before after (take n buffer) × (n < length buffer → IsAtEnd after)
Taken None before after buffer = Unit
