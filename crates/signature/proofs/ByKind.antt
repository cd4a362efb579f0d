-- Counts of what a statement is about, parent models, results.
use Prim.Native.Nat.{ℕ, zero, suc, ◌-◌, ◌≤◌, ◌<◌}
use native.Mathlib.Omega.{arith}
use mathlib.Core.List.{List}
use mathlib.Core.Option.{some}
use mathlib.Core.Path.{◌≡◌, sym}
use lib.ListN.{length, get_or}
use Rattle.definition.specs.Base.{last_of}
use Rattle.definition.specs.Letters.{func_domain}
use Rattle.definition.specs.Signature.{Signature, symbol_count}
use Rattle.records.proofs.Lists.{last_some}

-- A number that a kind's symbols have is of a kind that there is.
pub kind_known : (sig : Signature) (kind : ℕ) {n : ℕ} → n < symbol_count sig kind → kind ≤ func_domain
unfolding symbol_count
kind_known sig zero h = omega arith
kind_known sig (suc zero) h = omega arith
kind_known sig (suc (suc zero)) h = omega arith
kind_known sig (suc (suc (suc zero))) h = omega arith
kind_known sig (suc (suc (suc (suc zero)))) h = omega arith
kind_known sig (suc (suc (suc (suc (suc zero))))) h = omega arith
kind_known sig (suc (suc (suc (suc (suc (suc kind)))))) h = absurd (omega arith)

-- The last parent, where there is one.
pub model_last : (ns : List ℕ) {n : ℕ} → n ≡ length ns → (n ≡ 0 → ⊥) → {m : ℕ} → m ≡ get_or ns (n - 1) 0 → some m ≡ last_of ns
model_last ns {n} e q {m} g =
    let k : length ns ≡ suc (n - 1) = omega arith in
    rw g (sym (last_some ns (n - 1) 0 k))
