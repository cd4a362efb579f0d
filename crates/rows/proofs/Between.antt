-- What is known of a map between two structures is known even where only that it holds is.
use mathlib.Core.Bool.{Bool-set}
use Rattle.std.specs.Coded.{le_prop}
use Rattle.std.proofs.Math.Logic.{∥∥₁_elim}
use Rattle.laws.proofs.Lists.{has_mem, mem_has}
use Rattle.rows.specs.Morphisms.{MorphismBy, Between}

-- Each of its facts is, or follows from, one that has one proof at most.
pub between : {m : MorphismBy} → ∥ Between m ∥₁ → Between m
between w = record {
  keys = record { named = λ p i. has_mem _ _ (∥∥₁_elim w (Bool-set _ _) (λ b. mem_has _ _ (b.keys.named p i))) };
  images = record { named = λ p i. has_mem _ _ (∥∥₁_elim w (Bool-set _ _) (λ b. mem_has _ _ (b.images.named p i))) };
  merged = record {
    flags = record {
      above = record { small = ∥∥₁_elim w le_prop (λ b. b.merged.flags.above.small) };
      same = λ i l. ∥∥₁_elim w (Bool-set _ _) (λ b. b.merged.flags.same i l);
    };
  };
}
