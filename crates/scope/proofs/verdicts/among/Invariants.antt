use mathlib.Core.Path.{◌≡◌}
use lib.ListN.{drop}
use Rattle.definition.specs.Base.{has}
use Rattle.definition.specs.Signature.{type_parents}
use Rattle.scope.proofs.verdicts.among.Given as goal

abbrev pub invariant-loop-i : goal.invariant-loop-i
invariant-loop-i l =
    let part = type_parents l.sig l.t.0 in has l.x.0 part ≡ has l.x.0 (drop l.i part)
