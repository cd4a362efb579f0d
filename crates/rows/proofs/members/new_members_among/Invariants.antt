use Prim.Native.Nat.{ℕ}
use mathlib.Core.List.{List}
use mathlib.Core.Path.{◌≡◌}
use lib.ListN.{length, take}
use Rattle.definition.specs.Base.{each}
use Rattle.definition.specs.Letters.{member}
use Rattle.definition.specs.Rule.{Row, Pair}
use Rattle.flags.specs.Flags.{places}
use Rattle.rule.specs.Rows.{Alike, member_rows}
use Rattle.rows.specs.Members.{new_member}
use Rattle.rows.specs.Table.{Holds}
use Rattle.rows.proofs.members.new_members_among.Given as goal

abbrev pub invariant-loop-i : goal.invariant-loop-i
invariant-loop-i l =
    (length l.flags ≡ places)
    × ((columns : ℕ → ℕ) (pairs : List Pair) (sources : List Row) → Holds member columns pairs sources l.images
    → Alike member columns (member_rows l.els) → take l.i l.flags ≡ each (new_member pairs sources) (take l.i l.els))
