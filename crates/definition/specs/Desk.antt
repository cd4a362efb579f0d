-- Garage examples, g1: the program `desk`, all of its input to all of its output.
use Rattle.std.specs.Prelude.{List, [], ◌∷◌, ◌++◌, ℕ, ◌+◌, ◌*◌, leb, length, take, drop}
use Rattle.definition.specs.Base.{Outcome, refused, accepted, pick}
use Rattle.definition.specs.Limits.{answer_bytes}
use Rattle.definition.specs.Names.{decimal}
use Rattle.definition.specs.Flatten.{flatten_of}

-- '`refused`, a space, the number, a newline'.
abbrev pub refused_word : List ℕ
refused_word = 114 ∷ 101 ∷ 102 ∷ 117 ∷ 115 ∷ 101 ∷ 100 ∷ 32 ∷ []

-- 'a newline'.
abbrev pub newline : ℕ
newline = 10

-- 'it prints the group, or' the refusal.
unfoldable pub printed : Outcome (List ℕ) → List ℕ
printed (refused n) = refused_word ++ decimal n ++ (newline ∷ [])
printed (accepted group) = group

-- 'reads a two-byte signature length, the signature, the rule' ('missing input bytes: 2'; 'its buffer is 65,535 bytes').
unfoldable pub desk_of : List ℕ → List ℕ
desk_of [] = printed (refused 2)
desk_of (high ∷ []) = printed (refused 2)
desk_of (high ∷ low ∷ s) = printed (pick (leb (high * 256 + low) (length s))
    (flatten_of (take (high * 256 + low) s) (drop (high * 256 + low) s) answer_bytes) (refused 2))
