-- The first field of a run, and its check.
use Prim.Native.Nat.{ℕ}
use mathlib.Core.List.{List, [], ◌∷◌}
use mathlib.Core.Option.{Option, some}
use mathlib.Core.Option as option
use mathlib.Core.Path.{◌≡◌, refl, sym, ◌∙◌, ap}
use Rattle.definition.specs.Records.{Field}
use Rattle.records.specs.Places.{field_at, field_of, Run, none, more, got}
use Rattle.records.proofs.Link.{got_same}
use Rattle.records.specs.Refusals.{number}
use Rattle.records.specs.declared.refusal.Refusal.{Refusal}
use Rattle.std.proofs.Common.{Err}
use Rattle.group.specs.Answers.{First, counted}

-- The first field of a run is the one that is read.
pub run_cons : {s : List ℕ} {at end l start len next : ℕ} {f : Field} {fs : List Field} → Run s at end (f ∷ fs) → field_at s at ≡ got l start len next
    → (f ≡ field_of s l start len) × Run s next end fs
run_cons {s} (more {fs = fs} d r) e =
    let q = got_same (sym d ∙ e) in (rw (q.letter_is, q.start_is, q.len_is), rw q.next_is at r)

-- Where nothing stands, a run ends where it starts.
pub run_nil : {s : List ℕ} {at end : ℕ} → Run s at end [] → end ≡ at
run_nil none = refl

module _ {s : List ℕ} {at end l start len next : ℕ} {f : Field} {fs : List Field} (r : Run s at end (f ∷ fs)) (e : field_at s at ≡ got l start len next)
    (check : Field → Option ℕ) where
  pub first_sound : {count : ℕ} → ((letter : ℕ) → option.none ≡ check (field_of s letter start len)) → First (counted count next) s at end (check f) f fs
  first_sound k = record { is = (ap check (run_cons r e).0 ∙ sym (k l), rw (run_cons r e).0 (more e none), (run_cons r e).1) }

  pub first_fault : {n : Refusal} → ((letter : ℕ) → some (number n) ≡ check (field_of s letter start len)) → First (Err n) s at end (check f) f fs
  first_fault k = record { is = ap check (run_cons r e).0 ∙ sym (k l) }
