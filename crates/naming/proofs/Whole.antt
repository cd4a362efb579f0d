-- Rows as a whole: what is taken over, numbered and read back.
use Prim.Native.Nat.{ℕ, ◌+◌, ◌-◌, ◌≤◌, ◌<◌}
use native.Mathlib.Omega.{arith}
use mathlib.Core.List.Memᴰ
use mathlib.Core.List.{List, [], ◌∷◌}
use mathlib.Core.Option.{Option, none, some}
use mathlib.Core.Path.{◌≡◌, refl, ◌∙◌}
use lib.ListN.{length, take, replicate}
use lib.Seq.{take_at}
use borrow.Author.Tests.{lt-ltb, le-ltb}
use Rattle.definition.specs.Base.{each, ◌∈◌}
use Rattle.definition.specs.Limits.{field_limit}
use Rattle.definition.specs.Names.{numbered}
use Rattle.naming.specs.Variables.{no_var, row_of, kept_by, kept_in}

-- What elements take over is below a number.
pub record TakenBelow (n : ℕ) (cs : List (Option ℕ)) : Type 0 where
  pub below : (v : ℕ) → some v ∈ cs → v < n

rest_below : {n : ℕ} {c : Option ℕ} {cs : List (Option ℕ)} → TakenBelow n (c ∷ cs) → TakenBelow n cs
rest_below t = record { below = λ v m. t.below v (Memᴰ.tail m) }

-- The front of a row.
pub take_row : (vs : List ℕ) {n : ℕ} → length vs ≡ n → take n (row_of vs) ≡ vs
unfolding row_of
take_row vs {n} long = take_at vs (replicate (field_limit - length vs) no_var) n long

pub length_numbered : (n : ℕ) (cs : List (Option ℕ)) → length (numbered n cs) ≡ length cs
unfolding numbered
length_numbered n [] = refl
length_numbered n (some v ∷ cs) = rw (length_numbered n cs)
length_numbered n (none ∷ cs) = rw (length_numbered (n + 1) cs)

-- A numbered row tells what was taken over.
kept_back : (n k : ℕ) (cs : List (Option ℕ)) → TakenBelow n cs → n ≤ k → each (kept_by n) (numbered k cs) ≡ cs
unfolding each numbered
kept_back n k [] t h = refl
kept_back n k (none ∷ cs) t h = rw (le-ltb k n h, kept_back n (k + 1) cs (rest_below t) (omega arith))
kept_back n k (some v ∷ cs) t h = rw (lt-ltb v n (t.below v (Memᴰ.head refl)), kept_back n k cs (rest_below t) h)

pub kept_row : {n count : ℕ} {cs : List (Option ℕ)} → TakenBelow n cs → length cs ≡ count → kept_in n count (row_of (numbered n cs)) ≡ cs
unfolding kept_in
kept_row {n} {cs = cs} t long = rw (take_row (numbered n cs) (length_numbered n cs ∙ long)) (kept_back n n cs t (omega arith))
