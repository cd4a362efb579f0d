-- The sections of a group: fields of one letter that stand one behind the other, and their faults.
use Rattle.std.specs.Prelude.{true, List, [], ◌∷◌, ◌≡◌, ℕ, eqb}
use Rattle.std.proofs.Math.Option.{Option, none}
use Rattle.definition.specs.Base.{pick, or_else}
use Rattle.definition.specs.Letters.{letter_u, letter_b, letter_h}
use Rattle.definition.specs.Records.{Field, Block, Grammar, follows, fault_among}
use Rattle.definition.specs.Signature.{Signature}
use Rattle.definition.specs.Group.{group_grammar, premise_kinds, conclusion_kinds, flat_rule_fault, statement_fault}
use Rattle.group.specs.declared.ids.Side.{Side}
use Rattle.group.specs.declared.ids.Side.TheVariants.{Premise, Conclusion}

-- The fields of a letter that stand first, and what stands behind them.
unfoldable pub leading : ℕ → List Field → List Field
leading letter [] = []
leading letter (f ∷ fs) = pick (eqb f.letter letter) (f ∷ leading letter fs) []

unfoldable pub trailing : ℕ → List Field → List Field
trailing letter [] = []
trailing letter (f ∷ fs) = pick (eqb f.letter letter) (trailing letter fs) (f ∷ fs)

-- Each letter may stand behind the one before it.
unfoldable pub Ordered : Grammar → ℕ → List Field → Type 0
Ordered g behind [] = Unit
Ordered g behind (f ∷ fs) = (follows g.places behind f.letter ≡ true) × Ordered g f.letter fs

-- A rule comes next, from its U field on, or nothing.
abbrev pub AtRule : List Field → Type 0
AtRule [] = Unit
AtRule (f ∷ fs) = (f.letter ≡ letter_u) × Ordered group_grammar letter_u fs

-- The field of a letter with a content.
abbrev pub field_with : ℕ → List ℕ → Field
field_with letter content = record { letter = letter; content = content }

-- The letter of a side's fields.
abbrev pub letter_of : Side → ℕ
letter_of Premise = letter_b
letter_of Conclusion = letter_h

-- The kinds that a statement of a letter may have.
abbrev pub kinds_of : ℕ → List ℕ
kinds_of letter = pick (eqb letter letter_b) premise_kinds conclusion_kinds

-- The fields of a B or H section have no fault.
abbrev pub Stated : Signature → ℕ → ℕ → List Field → Type 0
Stated sig letter variables [] = Unit
Stated sig letter variables (f ∷ fs) = (statement_fault sig (kinds_of letter) variables 0 none f ≡ none) × Stated sig letter variables fs

-- The first fault of a rule.
unfoldable pub block_fault : Signature → ℕ → ℕ → Block → Option ℕ
block_fault sig variables before b = or_else (flat_rule_fault before b.head)
    (or_else (fault_among letter_b (statement_fault sig premise_kinds variables) b.body)
    (fault_among letter_h (statement_fault sig conclusion_kinds variables) b.body))
