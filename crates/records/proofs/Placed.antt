-- The pass along a record's letters, for any grammar: what a turn of it and each of its ends tell of the definition's part.
use Prim.Native.Nat.{ℕ, ◌≤◌, ◌<◌}
use native.Mathlib.Omega.{arith}
use mathlib.Core.Bool.{Bool, true, false}
use mathlib.Core.List.{List, [], ◌∷◌, ◌++◌}
use mathlib.Core.Path.{◌≡◌, refl, ◌∙◌}
use lib.ListN.{length}
use Rattle.definition.specs.Base.{has}
use Rattle.definition.specs.Letters.{start}
use Rattle.definition.specs.Records.{Field, Part, Grammar, follows, in_front, placed, fields_of}
use Rattle.records.specs.Places.{field_at, fields_at, field_of, Run, none, Parted, got}
use Rattle.std.proofs.Common.{None}
use Rattle.records.proofs.Link.{got_is, fields_bad, fields_got, fields_end, fields_all}
use Rattle.records.proofs.Runs.{run_snoc}

-- A part behind fields that were passed.
unfoldable pub passing : List Field → Part → Part
passing [] p = p
passing (f ∷ fs) p = in_front f (passing fs p)

passing_snoc : (fs : List Field) (f : Field) (p : Part) → passing (fs ++ (f ∷ [])) p ≡ passing fs (in_front f p)
unfolding passing
passing_snoc [] f p = refl
passing_snoc (g ∷ fs) f p = rw (passing_snoc fs f p)

passing_last : (fs : List Field) (whole : Bool) → passing fs (record { fields = []; whole = whole }) ≡ record { fields = fs; whole = whole }
unfolding passing
passing_last [] whole = refl
passing_last (f ∷ fs) whole = rw (passing_last fs whole)

-- The pass stands at a position, behind a letter; `passed` stand before it.
pub record Placing (g : Grammar) (s : List ℕ) (part : Part) (behind at : ℕ) (passed : List Field) : Type 0 where
  pub run : Run s 0 at passed
  pub within : at ≤ length s
  pub left : part ≡ passing passed (placed g behind (fields_at s at))

-- The pass ended: these are the part's fields.
pub record Placed (s : List ℕ) (part : Part) (end : ℕ) (whole : Bool) (passed : List Field) : Type 0 where
  pub parted : Parted s part end whole
  pub fields : part.fields ≡ passed

pub placing_start : (g : Grammar) (s : List ℕ) → Placing g s (placed g start (fields_of s)) start 0 []
unfolding passing
placing_start g s = record { run = none; within = omega arith; left = rw (fields_all s) }

module _ {g : Grammar} {s : List ℕ} {part : Part} {behind at : ℕ} {passed : List Field} (p : Placing g s part behind at passed) where
  placing_done : (whole : Bool) → placed g behind (fields_at s at) ≡ record { fields = []; whole = whole } → Placed s part at whole passed
  placing_done whole e =
      let q : part ≡ record { fields = passed; whole = whole } = p.left ∙ rw (e, passing_last) in
      record { parted = record { run = rw q p.run; within = p.within; same = rw q }; fields = rw q }

  -- A field whose letter may stand here is passed.
  pub placing_next : {letter start len next : ℕ} → field_at s at ≡ got letter start len next → follows g.places behind letter ≡ true
      → Placing g s part letter next (passed ++ (field_of s letter start len ∷ []))
  unfolding placed
  placing_next {letter} {start} {len} {next} e f = record {
    run = run_snoc p.run e;
    within = (got_is s at e).within;
    left = p.left ∙ rw (fields_got s at e, f, passing_snoc);
  }

  -- Any other ends the part, as does one that passes the end of the record.
  pub placing_stop : {letter start len next : ℕ} → field_at s at ≡ got letter start len next → follows g.places behind letter ≡ false
      → Placed s part at false passed
  unfolding placed
  placing_stop e f = placing_done false (rw (fields_got s at e, f))

  pub placing_bad : at < length s → field_at s at ≡ None → Placed s part at false passed
  unfolding placed
  placing_bad h e = placing_done false (rw (fields_bad s at h e))

  -- At the record's end nothing is missing where the last letter may stand last.
  pub placing_end : length s ≤ at → {whole : Bool} → has behind g.last ≡ whole → Placed s part at whole passed
  unfolding placed
  placing_end h {whole} f = placing_done whole (rw (fields_end s at h, f))
