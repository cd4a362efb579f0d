-- The variables of a map's keys.
use Prim.Native.Nat.{ℕ, ◌<◌}
use native.Mathlib.Omega.{arith}
use mathlib.Core.List.{List}
use mathlib.Core.Path.{◌≡◌, refl, sym, ◌∙◌}
use lib.ListN.{length, get_or}
use lib.Seq.{get_or-take}
use Rattle.definition.specs.Kinds.{variable_in}
use Rattle.definition.specs.Names.{numbers_of}
use Rattle.definition.specs.Rule.{Structure, Pair}
use Rattle.laws.proofs.Lists.{get_d_each, mem_at}
use Rattle.naming.specs.Variables.{GivenOut}
use Rattle.rule.specs.MapFields.{KeysIn}
use Rattle.rule.specs.Pairs.{no_pair}
use Rattle.rows.specs.Kernel.{SideAt, KeyVars, Typed}
use Rattle.rows.specs.Links.{LinkBy, Linked}
use Rattle.rows.specs.Morphisms.{MorphismBy, Between}
use Rattle.rows.proofs.Places.{numbers_many}
use Rattle.statements.specs.Structures.{side_of}

-- A row has the variables of the elements at their places.
pub side_at : (st : Structure) (row : List ℕ) → SideAt (numbers_of st) row (side_of st row)
side_at st row = record {
  numbers = refl;
  variables = λ i h. let n = numbers_many st in sym (get_or-take (length st.elements) row i 0 (omega arith));
}

-- Where the variables of a structure are given out, each key that is one of its elements has a type.
pub keys_in_typed : {st : Structure} {pairs : List Pair} {row vars : List ℕ} {size : ℕ} → KeysIn (numbers_of st) pairs → GivenOut st row size
    → KeyVars (side_of st row) pairs vars → Typed pairs vars size
keys_in_typed {st} {pairs} {row} {vars} {size} w g v = record { below = below }
  where
    below : (p : ℕ) → p < length pairs → get_or vars p 0 < size
    below p h =
        let pair = get_or pairs p no_pair in
        let e : get_or vars p 0 ≡ variable_in (side_of st row) pair.key =
        sym (get_or-take (length pairs) vars p 0 h)
        ∙ rw v.same (get_d_each (λ (q : Pair). variable_in (side_of st row) q.key) pairs p no_pair 0 h) in
        rw e (g.below pair.key (w.named pair (mem_at pairs p no_pair h)))

-- So it is with the keys of a map, by its signature and without one.
pub keys_typed : {m : MorphismBy} {sourcevars vars : List ℕ} {size : ℕ} → Between m → GivenOut m.source sourcevars size
    → KeyVars (side_of m.source sourcevars) m.pairs vars → Typed m.pairs vars size
keys_typed w = keys_in_typed w.keys

pub link_keys_typed : {l : LinkBy} {sourcevars vars : List ℕ} {size : ℕ} → Linked l → GivenOut l.source sourcevars size
    → KeyVars (side_of l.source sourcevars) l.pairs vars → Typed l.pairs vars size
link_keys_typed w = keys_in_typed w.keys
