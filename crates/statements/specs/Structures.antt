-- A structure with the variables of its elements.
use Rattle.std.specs.Prelude.{List, ℕ}
use Rattle.definition.specs.Kinds.{Side}
use Rattle.definition.specs.Rule.{Structure}
use Rattle.naming.specs.Variables.{variables_in}
use Rattle.statements.specs.declared.numbered.Numbered.{Numbered}

-- By a row that has the variables at its front.
abbrev pub side_of : Structure → List ℕ → Side
side_of st row = record { structure = st; variables = variables_in st row }

-- By the struct.
abbrev pub side_from : Numbered → Side
side_from x = record { structure = x.structure.now; variables = x.vars.now }
