-- The pass along a group's letters.
use Prim.Native.Nat.{ℕ, ◌≤◌, ◌<◌}
use mathlib.Core.Bool.{true, false, not}
use mathlib.Core.List.{List, []}
use mathlib.Core.Path.{◌≡◌, refl, sym}
use lib.Dec.{eqb}
use lib.ListN.{length}
use Rattle.definition.specs.Base.{any, has}
use Rattle.definition.specs.Letters.{start}
use Rattle.definition.specs.Records.{Field, follows}
use Rattle.definition.specs.Group.{group_grammar, group_part}
use Rattle.records.specs.Places.{field_at, Parted, got}
use Rattle.std.proofs.Common.{None}
use Rattle.records.proofs.Placed.{Placing, placing_start, placing_next, placing_stop, placing_bad, placing_end}
use Rattle.group.proofs.Shape.{follows_last}

-- The pass stands at a position, behind a letter; any letter of the record may stand last.
pub record Passing (s : List ℕ) (at behind : ℕ) : Type 0 where
  pub passed : List Field
  pub placing : Placing group_grammar s (group_part s) behind at passed
  pub last : not (eqb behind start) ≡ has behind group_grammar.last

pub pass_start : (s : List ℕ) → Passing s 0 start
unfolding group_part has any
pass_start s = record { passed = []; placing = placing_start group_grammar s; last = refl }

module _ {s : List ℕ} {at behind : ℕ} (p : Passing s at behind) where
  pub pass_next : {letter start len next : ℕ} → field_at s at ≡ got letter start len next → follows group_grammar.places behind letter ≡ true
      → Passing s next letter
  pass_next {letter} e f = record { passed = _; placing = placing_next p.placing e f; last = follows_last behind letter f }

  pub pass_stop : {letter start len next : ℕ} → field_at s at ≡ got letter start len next → follows group_grammar.places behind letter ≡ false
      → Parted s (group_part s) at false
  pass_stop e f = (placing_stop p.placing e f).parted

  pub pass_bad : at < length s → field_at s at ≡ None → Parted s (group_part s) at false
  pass_bad h e = (placing_bad p.placing h e).parted

  pub pass_end : length s ≤ at → Parted s (group_part s) at (not (eqb behind start))
  pass_end h = (placing_end p.placing h (sym p.last)).parted
