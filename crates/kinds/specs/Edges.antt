-- A map from a reached structure to another by itself, whatever the signature of its rule.
use Rattle.std.specs.Prelude.{ℕ, List, ◌≡◌, length}
use Rattle.definition.specs.Base.{each, given}
use Rattle.definition.specs.Kinds.{Side}
use Rattle.definition.specs.Names.{numbers_of}
use Rattle.definition.specs.Rows.{in_image}
use Rattle.definition.specs.Rule.{Pair}
use Rattle.definition.specs.Signature.{Signature}
use Rattle.rows.specs.Links.{LinkBy}
use Rattle.naming.specs.Variables.{kept_in, GivenOut}
use Rattle.statements.specs.Structures.{side_of}
use Rattle.kinds.specs.Steps.{StepBy}

-- What contracts see of it: the two structures with their variables, the pairs, and the types of the variables given out so far.
pub record EdgeBy : Type 0 where
  pub source : Side
  pub target : Side
  pub pairs : List Pair
  pub types : List ℕ

abbrev pub edge_by : LinkBy → List ℕ → List ℕ → List ℕ → EdgeBy
edge_by l sourcevars targetvars types =
    record { source = side_of l.source sourcevars; target = side_of l.target targetvars; pairs = l.pairs; types = types }

-- A step is an edge with a signature.
abbrev pub step_with : Signature → EdgeBy → StepBy
step_with sig x = record { sig = sig; source = x.source; target = x.target; pairs = x.pairs; types = x.types }

abbrev pub edge_in : StepBy → EdgeBy
edge_in x = record { source = x.source; target = x.target; pairs = x.pairs; types = x.types }

-- The target has its variables: those below `first` are the images' own.
pub record Landed (l : LinkBy) (targetvars : List ℕ) (first : ℕ) : Type 0 where
  pub images : each given (kept_in first (length l.target.elements) targetvars) ≡ each (in_image l.pairs) (numbers_of l.target)

-- And the source's variables are among so many given out.
pub record Reached (l : LinkBy) (sourcevars targetvars : List ℕ) (first size : ℕ) : Type 0 where
  pub given_out : GivenOut l.source sourcevars size
  pub landed : Landed l targetvars first

-- A map between two structures by themselves is that of an edge.
pub record Spans (l : LinkBy) (x : EdgeBy) : Type 0 where
  pub source : l.source ≡ x.source.structure
  pub target : l.target ≡ x.target.structure
  pub pairs : l.pairs ≡ x.pairs
