-- The base of a name is short where the names are.
use Prim.Native.Nat.{ℕ, ◌≤◌}
use native.Mathlib.Omega.{arith}
use mathlib.Core.Bool.{false}
use mathlib.Core.List.{List}
use mathlib.Core.Option.{some}
use mathlib.Core.Path.{◌≡◌, sym}
use lib.Dec.{eqb}
use lib.ListN.{length, length-drop}
use Rattle.std.specs.Prelude.{Option, Some, None, unwrap_or}
use Rattle.std.proofs.Common.{Bor}
use Rattle.definition.specs.Base.{first_of, ◌∈◌}
use Rattle.definition.specs.Limits.{name_bytes}
use Rattle.definition.specs.Names.{name_for}
use Rattle.definition.specs.Records.{bad_name}
use Rattle.definition.specs.Rule.{Name, name_of}
use Rattle.laws.proofs.Lists.{first_mem, picked, mem_each}
use Rattle.laws.proofs.NameLaws.{fine}
use Rattle.rule.specs.Structures.{names_of, structure_in, Laid}
use Rattle.naming.specs.Bases.{name_is, Short}

module _ (e : ℕ) {names : List Name} (short : Short names) where
  pub first_short : {bytes : List ℕ} → first_of (name_for e) names ≡ some bytes → length bytes ≤ name_bytes
  first_short q =
      let r = first_mem (name_for e) names q in
      let p = picked (eqb r.0.element e) r.0.name r.2 in
      rw (← p.1) (short.few r.0 r.1)

  -- A first name, or what stands for one.
  pub or_short : (o : Option (Bor (List ℕ))) (default : Bor (List ℕ)) → length default.now ≤ name_bytes → name_is o ≡ first_of (name_for e) names
      → length (unwrap_or o default).now ≤ name_bytes
  or_short (Some name) default h q = first_short (sym q)
  or_short None default h q = h

-- Names without a fault are short.
pub sound_short : {names : List Name} → ((n : Name) → n ∈ names → bad_name 1 name_bytes n.name ≡ false) → Short names
sound_short good = record { few = λ n m. (fine 1 name_bytes n.name (good n m)).short }

-- Those of a structure whose elements and names stand where the index says are short.
pub laid_short : {s index : List ℕ} {k : ℕ} → Laid s index k → (count : ℕ) → 1 ≤ count → count ≤ 2 → Short (names_of (structure_in s k) count)
unfolding name_of
laid_short w count l m =
    let n = w.names count l m in
    rw n.same record {
      few = λ x i.
          let a = mem_each (name_of count) n.fields i in
          let z = n.sized a.0 a.1 in
          rw a.2 (rw length-drop (omega (arith, z.1)));
    }
