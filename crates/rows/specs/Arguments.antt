-- The arguments of R and A rows.
use Rattle.std.specs.Prelude.{ℕ, ◌≤◌, ◌<◌, ◌⊎◌, Bool, false, List, ◌≡◌, eqb, length, get_or}
use Rattle.definition.specs.Base.{pick, has, ◌∈◌}
use Rattle.definition.specs.Letters.{predicate, function}
use Rattle.definition.specs.Rule.{Row}
use Rattle.definition.specs.Signature.{Signature, Symbol, pred_of, func_of}

-- What an R or A row names is there, and the row has at least its parents.
abbrev pub symbol_in : Signature → Row → Symbol
symbol_in sig r = pick (eqb r.kind predicate) (pred_of sig r.symbol) (func_of sig r.symbol)

pub record Listed (sig : Signature) (r : Row) : Type 0 where
  pub kind : (r.kind ≡ predicate) ⊎ (r.kind ≡ function)
  pub named : r.symbol < pick (eqb r.kind predicate) (length sig.preds) (length sig.funcs)
  pub parents : length (symbol_in sig r).parents ≤ length r.elements

pub record AllListed (sig : Signature) (rows : List Row) : Type 0 where
  pub each_listed : (r : Row) → r ∈ rows → Listed sig r

-- A flag for each element: whether it is one of those seen.
pub record Marks (flags : List Bool) (els seen : List ℕ) : Type 0 where
  pub at : (j : ℕ) → j < length els → get_or flags j false ≡ has (get_or els j 0) seen
