-- The group: its name, its variables, its rules.
use Prim.Native.Nat.{ℕ}
use mathlib.Core.Path.{◌≡◌}
use mathlib.Core.List.{List}
use lib.ListN.{length}
use Rattle.definition.specs.Base.{each}
use Rattle.definition.specs.Letters.{letter_g}
use Rattle.definition.specs.Writer.{record_bytes, variable_field, group_bytes_of}
use Rattle.definition.specs.Rule.{Rule}
use Rattle.definition.specs.Walk.{State, group_name}
use Rattle.definition.specs.Flatten.{group_left}
use Rattle.laws.proofs.ByteForm.{group_bytes}
use Rattle.records.specs.Buffer.{Put, head_bytes}
use Rattle.records.proofs.Tail.{then, field_bytes_lem}
use Rattle.writer.proofs.Ruling.{rule_bytes}

pub group_put : (rule : Rule) (state : State) {out₀ out₁ out₂ out₃ out₄ : List ℕ} {from a₁ a₂ a₃ a₄ len : ℕ}
    → len ≡ length (group_name rule) → Put out₀ out₁ (head_bytes letter_g len) from a₁ → Put out₁ out₂ (group_name rule) a₁ a₂
    → Put out₂ out₃ (record_bytes (each variable_field state.variables)) a₂ a₃
    → Put out₃ out₄ (rule_bytes state.rules) a₃ a₄
    → Put out₀ out₄ (group_bytes_of (group_left rule state)) from a₄
unfolding group_left
group_put rule state l p q v r = rw (group_bytes, field_bytes_lem) (then (then (rw l at p) q) (then v r))
