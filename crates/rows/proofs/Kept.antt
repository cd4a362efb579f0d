-- What is kept is read off the flags.
use Prim.Native.Nat.{ℕ, ◌<◌}
use mathlib.Core.Bool.{Bool, false}
use mathlib.Core.List.{List}
use mathlib.Core.Path.{◌≡◌, sym, ◌∙◌}
use lib.ListN.{length, get_or, take}
use lib.Seq.{get_or-take}
use Rattle.definition.specs.Base.{each}
use Rattle.definition.specs.Names.{numbers_of}
use Rattle.definition.specs.Rule.{Structure, Element}
use Rattle.definition.specs.Rows.{constrained}
use Rattle.definition.specs.Signature.{Signature}
use Rattle.laws.proofs.Choices.{each_each}
use Rattle.laws.proofs.Lists.{get_d_each}
use Rattle.rule.specs.Views.{no_element}

-- The flag at a place.
pub flag_at_lem : {A : Type 0} (f : A → Bool) (xs : List A) (flags : List Bool) → take (length xs) flags ≡ each f xs → (i : ℕ) (d : A) → i < length xs
    → get_or flags i false ≡ f (get_or xs i d)
flag_at_lem f xs flags e i d h = sym (get_or-take (length xs) flags i false h) ∙ rw e (get_d_each f xs i d false h)

-- Whether the element at a place is constrained.
pub constrained_at : (sig : Signature) (st : Structure) (flags : List Bool) → take (length st.elements) flags ≡ each (constrained sig st) (numbers_of st)
    → (i : ℕ) → i < length st.elements → get_or flags i false ≡ constrained sig st (get_or st.elements i no_element).number
unfolding numbers_of
constrained_at sig st flags e i l =
    let b : take (length st.elements) flags ≡ each (λ (x : Element). constrained sig st x.number) st.elements =
    e ∙ each_each (constrained sig st) (λ (x : Element). x.number) st.elements in
    flag_at_lem (λ (x : Element). constrained sig st x.number) st.elements flags b i no_element l
