use mathlib.Core.Logic.{⊎_elim}
use mathlib.Core.Path.{refl}
use Rattle.definition.specs.Signature.{symbol_count}
use Rattle.signature.proofs.Views.{types_are}
use Rattle.signature.proofs.lookup.Signature.declares.Goals as goal

-- A type's id comes from one of three arms.
pub returns-in-Member : goal.returns-in-Member
unfolding symbol_count
returns-in-Member c =
    rw (c.from-in-Member.ensures, ← (types_are _ _ _ c.self.view_is))
    (⊎_elim (λ w. rw w refl) (⊎_elim (λ w. rw w refl) (λ w. rw w refl)) c.in-Member.is)
