-- A map from a reached structure to another: what a step of each kind answers.
use Rattle.std.specs.Prelude.{ℕ, Bool, List, [], ◌∷◌, ◌++◌, ◌≡◌, length, Result, Ok, Err}
use Rattle.std.proofs.Math.Option.{Option, none, some}
use Rattle.definition.specs.Base.{each, pick, lowest, given}
use Rattle.definition.specs.Group.{Variable, Statement}
use Rattle.definition.specs.Kinds.{Side, kernel_clashes, row_unmapped, equalities, if_statements, surj_conclusion}
use Rattle.definition.specs.Names.{numbers_of}
use Rattle.definition.specs.Rows.{in_image}
use Rattle.definition.specs.Rule.{Pair, MorphismKind, SurjThen, NonSurjThen}
use Rattle.definition.specs.Signature.{Signature}
use Rattle.records.specs.Refusals.{number}
use Rattle.records.specs.declared.refusal.Refusal.{Refusal}
use Rattle.flags.specs.Flags.{none_set}
use Rattle.rule.specs.Views.{StructureBy}
use Rattle.rows.specs.Morphisms.{MorphismBy}
use Rattle.naming.specs.Variables.{kept_in, GivenOut}
use Rattle.statements.specs.Said.{said_by, domains_by}
use Rattle.statements.specs.Structures.{side_of}
use Rattle.statements.specs.declared.masks.Masks.{Masks}
use Rattle.laws.specs.Steps.{step_fault, own, conclusions}
use Rattle.kinds.specs.Added.{RowMasks}

-- What contracts see of a step: the two structures of its map with their variables, its pairs, the signature, and the types of the variables given out so far.
pub record StepBy : Type 0 where
  pub sig : Signature
  pub source : Side
  pub target : Side
  pub pairs : List Pair
  pub types : List ℕ

abbrev pub step_by : MorphismBy → List ℕ → List ℕ → List ℕ → StepBy
step_by m sourcevars targetvars types = record {
  sig = m.sig;
  source = side_of m.source sourcevars;
  target = side_of m.target targetvars;
  pairs = m.pairs;
  types = types;
}

-- Its structures.
abbrev pub from_in : StepBy → StructureBy
from_in x = record { sig = x.sig; structure = x.source.structure }

abbrev pub to_in : StepBy → StructureBy
to_in x = record { sig = x.sig; structure = x.target.structure }

-- The source's variables are among so many given out, and the target has its variables: those below `first` are the images' own.
pub record Reaches (m : MorphismBy) (sourcevars targetvars : List ℕ) (first size : ℕ) : Type 0 where
  pub given_out : GivenOut m.source sourcevars size
  pub images : each given (kept_in first (length m.target.elements) targetvars) ≡ each (in_image m.pairs) (numbers_of m.target)

-- What the masks say of the target, and the FuncDomains of its flagged A rows.
abbrev pub said : Side → Masks → List Statement
said target masks = said_by target.structure target.variables masks

abbrev pub domains : Side → Masks → List Statement
domains target masks = domains_by target.structure target.variables masks.funcs

-- A map is that of a step.
pub record Along (m : MorphismBy) (x : StepBy) : Type 0 where
  pub source : m.source ≡ x.source.structure
  pub target : m.target ≡ x.target.structure
  pub pairs : m.pairs ≡ x.pairs

-- A refusal, or none and what the masks say.
abbrev pub StepAs : Result Masks Refusal → Option ℕ → (Masks → Type 0) → Type 0
StepAs (Err r) fault says = fault ≡ some (number r)
StepAs (Ok masks) fault says = (fault ≡ none) × says masks

module _ (x : StepBy) (table : List Variable) where
  -- What the definition says of a map: a fault of a kind, equalities, what it appends or concludes.
  abbrev pub by : {A : Type 0} → (List Variable → Side → Side → List Pair → A) → A
  by f = f table x.source x.target x.pairs

  -- 25 and 26, else the new rows but for the marked members.
  pub record MasksFor (marks : List Bool) (r : Result Masks Refusal) : Type 0 where
    pub is : StepAs r (lowest ((25, by kernel_clashes) ∷ (26, row_unmapped x.source x.pairs) ∷ []))
        (λ (masks : Masks). RowMasks masks x.source.structure x.target.structure x.pairs marks)

  -- If and Noop: behind the equalities, what the target appends.
  pub record IfDoes (kind : MorphismKind) (r : Result Masks Refusal) : Type 0 where
    pub is : StepAs r (by step_fault kind) (λ (masks : Masks). by (if_statements x.sig) ≡ by equalities ++ said x.target masks)

  -- SurjThen: behind the equalities, the rule's conclusion.
  pub record SurjDoes (r : Result Masks Refusal) : Type 0 where
    pub is : StepAs r (by step_fault SurjThen) (λ (masks : Masks). by surj_conclusion ≡ by equalities ++ said x.target masks)

  -- NonSurjThen: what the target appends, and the conclusions of the rule, if it emits one: none without a row.
  pub record NonSurjDoes (r : Result Masks Refusal) : Type 0 where
    pub is : StepAs r (by step_fault NonSurjThen) (λ (masks : Masks). (by (own x.sig) NonSurjThen ≡ said x.target masks)
        × (by conclusions NonSurjThen ≡ pick (none_set masks.funcs) [] (domains x.target masks ∷ [])))
