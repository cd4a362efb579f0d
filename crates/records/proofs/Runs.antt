-- Runs of fields: how a loop goes along one, and how one grows.
use Prim.Native.Nat.{ℕ, ◌≤◌, ◌<◌}
use native.Mathlib.Omega.{arith}
use mathlib.Core.List.{List, [], ◌∷◌, ◌++◌}
use mathlib.Core.Path.{◌≡◌, refl, sym, ◌∙◌}
use lib.ListN.{length}
use Rattle.definition.specs.Records.{Field}
use Rattle.records.specs.Places.{field_at, field_of, Run, none, more, got}
use Rattle.std.proofs.Common.{None}
use Rattle.records.proofs.Link.{got_is, got_same}

-- The first field of a run, and the run behind it.
pub record Behind (s : List ℕ) (end letter start len next : ℕ) (fs : List Field) : Type 0 where
  pub rest : List Field
  pub same : fs ≡ field_of s letter start len ∷ rest
  pub run : Run s next end rest

module _ {s : List ℕ} where
  -- A run ends no earlier than it starts, and lies in the record where it starts in it.
  pub run_le : {at end : ℕ} {fs : List Field} → Run s at end fs → at ≤ end
  run_le none = omega arith
  run_le (more {at} {letter} {start} {len} {next} e r) = let g = got_is s at e in let h = run_le r in omega arith

  pub run_within : {at end : ℕ} {fs : List Field} → Run s at end fs → at ≤ length s → end ≤ length s
  run_within none h = h
  run_within (more {at} e r) h = run_within r (got_is s at e).within

  -- Two runs behind each other.
  pub run_append : {at mid end : ℕ} {fs gs : List Field} → Run s at mid fs → Run s mid end gs → Run s at end (fs ++ gs)
  run_append none r = r
  run_append (more e q) r = more e (run_append q r)

  -- One field more.
  pub run_snoc : {at end letter start len next : ℕ} {fs : List Field} → Run s at end fs → field_at s end ≡ got letter start len next
      → Run s at next (fs ++ (field_of s letter start len ∷ []))
  run_snoc r e = run_append r (more e none)

  -- At its end nothing is left; before it the field read is the first.
  pub run_end : {at end : ℕ} {fs : List Field} → Run s at end fs → end ≤ at → fs ≡ []
  run_end none h = refl
  run_end (more {at} e r) h = let g = got_is s at e in let l = run_le r in absurd (omega arith)

  pub run_bad : {A : Type 0} {at end : ℕ} {fs : List Field} → Run s at end fs → at < end → field_at s at ≡ None → A
  run_bad none h e = absurd (omega arith)
  run_bad (more d r) h e = let z : ◌≡◌ {A = ℕ} 0 1 = cc in absurd (omega arith)

  pub run_got : {at end letter start len next : ℕ} {fs : List Field} → Run s at end fs → at < end → field_at s at ≡ got letter start len next
      → Behind s end letter start len next fs
  run_got none h e = absurd (omega arith)
  run_got {end = end} {letter} {start} {len} {next} (more {letter = l} {start = b} {len = n} {next = x} {fs = gs} d r) h e =
      let g = got_same (sym d ∙ e) in
      record { rest = gs; same = rw (g.letter_is, g.start_is, g.len_is) refl; run = rw g.next_is at r }

  -- Between two positions stand the same fields.
  pub run_same : {at end : ℕ} {fs gs : List Field} → Run s at end fs → Run s at end gs → fs ≡ gs
  run_same none q = sym (run_end q (omega arith))
  run_same (more {at} e r) q =
      let g = got_is s at e in let l = run_le r in
      let b = run_got q (omega arith) e in
      rw (run_same r b.run) (sym b.same)
