-- A map by itself that the walk has come to: what the code's calls ask.
use Prim.Native.Nat.{ℕ, zero, suc, ◌+◌, ◌≤◌, ◌<◌}
use native.Mathlib.Omega.{arith}
use mathlib.Core.Path.{◌≡◌}
use mathlib.Core.List.{List, [], ◌∷◌}
use lib.ListN.{length, get_or, take}
use Rattle.definition.specs.Limits.{field_limit, variable_limit}
use Rattle.definition.specs.Names.{numbers_of, numbered}
use Rattle.definition.specs.Rule.{Structure}
use Rattle.definition.specs.Signature.{Signature}
use Rattle.laws.proofs.Lists.{length_each}
use Rattle.laws.proofs.Numbering.{fresh_few}
use Rattle.laws.specs.Numbering.{fresh}
use Rattle.rule.specs.Structures.{ByteTypes}
use Rattle.rule.specs.Views.{Sound}
use Rattle.rows.specs.Links.{LinkBy, Linked}
use Rattle.rows.specs.Morphisms.{MorphismBy}
use Rattle.rows.proofs.ArgumentLaws.{preds_listed, funcs_listed}
use Rattle.naming.specs.Variables.{bare, row_of, kept_by, kept_in, GivenOut}
use Rattle.naming.specs.Maps.{taken_between, Joins}
use Rattle.naming.proofs.Carrying.{listed_taken}
use Rattle.naming.proofs.News.{sound_bytes}
use Rattle.naming.proofs.Reached.{images_taken}
use Rattle.kinds.specs.Edges.{Reached}
use Rattle.std.proofs.Common.{Ok}
use Rattle.walk.specs.declared.tables.Tables.{Tables}
use Rattle.walk.specs.Linked.{Known, Ready}
use Rattle.walk.specs.Tables.{row_at}
use Rattle.walk.specs.Went.{Ends}
use Rattle.walk.proofs.Reaching.{given_more}

-- What an accepted rule's structure gives.
pub known : {sig : Signature} {st : Structure} → Sound (record { sig = sig; structure = st }) → Known sig st
known w = record { preds = preds_listed w; funcs = funcs_listed w; types = record { small = (sound_bytes w).small } }

pub known_bytes : {sig : Signature} {st : Structure} → Known sig st → ByteTypes (bare st.elements)
known_bytes k = record { small = k.types.small }

-- Keys and images are elements.
pub joins : {l : LinkBy} → Linked l → Joins l.source.elements l.target.elements l.pairs
unfolding numbers_of
joins k = record { keys = k.keys.named; images = k.images.named }

-- The new variables of a row's front are few.
take_few : (n : ℕ) (xs : List ℕ) → length (take n xs) ≤ n
take_few zero xs = omega arith
take_few (suc n) [] = omega arith
take_few (suc n) (x ∷ xs) = let r = take_few n xs in omega arith

pub new_small : (first : ℕ) {count : ℕ} (row : List ℕ) → count ≤ field_limit → first + field_limit ≤ variable_limit
    → first + fresh (kept_in first count row) < 65536
unfolding kept_in
new_small first {count} row h r =
    let f = fresh_few (kept_in first count row) in
    let e = length_each (kept_by first) (take count row) in
    let t = take_few count row in omega arith

-- The source was reached, and the target wasn't.
module _ {st : Structure} {tb : Tables} {first size source target : ℕ} (r : Ready st tb first size source target) {u : Unit {0}}
    (d : Ends (Ok u) tb.sources source target) where
  pub room : first + field_limit ≤ variable_limit
  room = (r.room d.is.1).0

  pub typed_room : first + field_limit ≤ size
  typed_room = (r.room d.is.1).1

  given_row : {sourcevars : List ℕ} → sourcevars ≡ get_or tb.vars source [] → GivenOut st sourcevars first
  unfolding row_at
  given_row b = rw b (r.given d.is.0)

-- The target has its variables.
pub reached : {l : LinkBy} → Linked l → {tb : Tables} {first size source target : ℕ} → Ready l.source tb first size source target → {u : Unit {0}}
    → Ends (Ok u) tb.sources source target → {sourcevars targetvars : List ℕ} → sourcevars ≡ get_or tb.vars source []
    → targetvars ≡ row_of (numbered first (taken_between sourcevars l.source.elements l.target.elements l.pairs))
    → Reached l sourcevars targetvars first size
reached {l} k r d {sourcevars} b a =
    let m : MorphismBy = record {
      sig = record { types = []; preds = []; funcs = [] };
      source = l.source;
      target = l.target;
      pairs = l.pairs;
      merged = l.merged;
    } in
    record {
      given_out = let t = typed_room r d in given_more (omega arith) (given_row r d b);
      landed = record { images = rw (a, listed_taken l.source l.target l.pairs sourcevars) (images_taken m k.keys (given_row r d b)) };
    }
