-- What `?` and `ok_or` tell.
use Rattle.std.specs.Prelude.{Option, Some, None, Result, Ok, Err, ◌≡◌}
use Rattle.std.specs.Option.{ok_or}
use Rattle.std.specs.Result.{IsErrAnd, IsErr}
use Rattle.std.proofs.lemmas.Result.{err_from_is_err_and}
use native.Mathlib.Omega.{arith}
use mathlib.Core.Path.{refl}

-- The error that a `?` passes on.
pub passed_on : {T E : Type 0} {r : Result T E} {e : E} → IsErr r × IsErrAnd r (λ d. d ≡ e) → r ≡ Err e
passed_on {r = r} h = let p = err_from_is_err_and r h.1 in rw (p.1, p.2) refl

-- What an `ok_or` was told.
module _ {T E : Type 0} {r : Result T E} (e : E) where
  pub was_some : {o : Option T} {x : T} → r ≡ ok_or o e → r ≡ Ok x → o ≡ Some x
  was_some {o = Some y} v h = grind arith
  was_some {o = None} v h = grind arith

  pub was_none : {o : Option T} {d : E} → r ≡ ok_or o e → r ≡ Err d → o ≡ None
  was_none {o = Some y} v h = grind arith
  was_none {o = None} v h = refl

  pub which_err : (o : Option T) {d : E} → r ≡ ok_or o e → r ≡ Err d → d ≡ e
  which_err (Some y) v h = grind arith
  which_err None v h = grind arith
