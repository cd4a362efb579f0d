-- A second list of examples, with a single claim: each is what an edit of a definition would change (must-fail/), beside g1 to g11.
-- Other examples are executed: they stand among the cases that `replay` answers.
use Rattle.std.specs.Prelude.{refl, List, [], ◌∷◌, ◌++◌, ℕ}
use Rattle.definition.specs.Base.{accepted}
use Rattle.definition.specs.Letters.{predicate, member, equality, type_set}
use Rattle.definition.specs.Group.{Variable, Statement}
use Rattle.definition.specs.Scope.{model}
use Rattle.definition.specs.Garage.{typ, pred, rule, structure, element, row, variable, identifier, map, kind, auxiliary}
use Rattle.definition.specs.Garage.{If, SurjThen, stmt, var, flat_rule, group, Example, flattens, scopes, All, room}
use Rattle.definition.specs.Opened.{opened}

-- Type 0 parentless (a house), types 1 and 2 with parent 0 (a bay, a card); predicate 0 of a house's bay, predicate 1 of two houses.
abbrev signature : List ℕ
signature = typ [] ++ typ (0 ∷ []) ++ typ (0 ∷ []) ++ pred (0 ∷ []) (1 ∷ []) ++ pred [] (0 ∷ 0 ∷ [])

-- Names q, q_0, a, b7, a12, el0 to el3.
abbrev q : List ℕ
q = 113 ∷ []

abbrev q0 : List ℕ
q0 = 113 ∷ 95 ∷ 48 ∷ []

abbrev a : List ℕ
a = 97 ∷ []

abbrev b7 : List ℕ
b7 = 98 ∷ 55 ∷ []

abbrev a12 : List ℕ
a12 = 97 ∷ 49 ∷ 50 ∷ []

abbrev el : ℕ → List ℕ
el digit = 101 ∷ 108 ∷ digit ∷ []

-- Members stand by (type, parents, element), not as their elements do; the first V name, else the first I name, else `el`.
abbrev houseful : List ℕ
houseful = structure ++ element 0 0 [] ++ element 1 2 (0 ∷ []) ++ element 2 1 (0 ∷ [])

abbrev member_order : Example
member_order = flattens signature
    (rule 0 q ++ houseful ++ variable 2 a ++ variable 2 b7 ++ identifier 3 1 b7 ++ identifier 4 1 a
    ++ houseful ++ row 0 (0 ∷ 2 ∷ []) ++ map 0 1 (0 ∷ 0 ∷ 1 ∷ 1 ∷ 2 ∷ 2 ∷ []) ++ kind 0 1 SurjThen) room
    (accepted (group q (var 0 (el 48) ∷ var 2 (98 ∷ 55 ∷ 49 ∷ []) ∷ var 1 (97 ∷ 50 ∷ []) ∷ [])
    (flat_rule q0 (stmt member 1 (0 ∷ 2 ∷ []) ∷ stmt member 2 (0 ∷ 1 ∷ []) ∷ stmt type_set 0 (0 ∷ []) ∷ [])
    (stmt predicate 0 (0 ∷ 2 ∷ []) ∷ []) ∷ [])))

-- A parent is not constrained: If gives the new house a TypeSet, and no member to the new bay, which is an argument.
abbrev bay : List ℕ
bay = structure ++ element 0 0 [] ++ element 1 1 (0 ∷ []) ++ row 0 (0 ∷ 1 ∷ [])

abbrev parent_free : Example
parent_free = flattens signature
    (rule 0 q ++ structure ++ bay ++ bay ++ map 0 1 [] ++ map 1 2 (0 ∷ 0 ∷ 1 ∷ 1 ∷ []) ++ kind 0 1 If ++ kind 1 2 SurjThen) room
    (accepted (group q (var 0 (el 48) ∷ var 1 (el 49) ∷ [])
    (flat_rule q0 (stmt predicate 0 (0 ∷ 1 ∷ []) ∷ stmt type_set 0 (0 ∷ []) ∷ []) [] ∷ [])))

-- Kernel pairs stand by image, not by key.
abbrev houses2 : List ℕ
houses2 = structure ++ element 0 0 [] ++ element 1 0 []

abbrev houses4 : List ℕ
houses4 = houses2 ++ element 2 0 [] ++ element 3 0 []

abbrev sets4 : List Statement
sets4 = stmt type_set 0 (0 ∷ []) ∷ stmt type_set 0 (1 ∷ []) ∷ stmt type_set 0 (2 ∷ []) ∷ stmt type_set 0 (3 ∷ []) ∷ []

abbrev els4 : List Variable
els4 = var 0 (el 48) ∷ var 0 (el 49) ∷ var 0 (el 50) ∷ var 0 (el 51) ∷ []

abbrev by_image : Example
by_image = flattens signature
    (rule 0 q ++ houses4 ++ houses2 ++ map 0 1 (0 ∷ 1 ∷ 1 ∷ 0 ∷ 2 ∷ 1 ∷ 3 ∷ 0 ∷ []) ++ kind 0 1 SurjThen) room
    (accepted (group q els4 (flat_rule q0 sets4 (stmt equality 0 (1 ∷ 3 ∷ []) ∷ stmt equality 0 (0 ∷ 2 ∷ []) ∷ []) ∷ [])))

-- An X takes the lowest source: structure 2 goes on from 0 and knows nothing of the row in 1. Classes 0, 1 and 2.
abbrev linked : List ℕ
linked = houses2 ++ row 1 (0 ∷ 1 ∷ [])

abbrev keep01 : List ℕ
keep01 = 0 ∷ 0 ∷ 1 ∷ 1 ∷ []

abbrev one_rule : List ℕ
one_rule = group q (var 0 (el 48) ∷ var 0 (el 49) ∷ [])
    (flat_rule q0 (stmt type_set 0 (0 ∷ []) ∷ stmt type_set 0 (1 ∷ []) ∷ []) (stmt predicate 1 (0 ∷ 1 ∷ []) ∷ []) ∷ [])

abbrev lowest_source : Example
lowest_source = flattens signature
    (rule 0 q ++ houses2 ++ linked ++ houses2 ++ houses2 ++ linked
    ++ map 0 1 keep01 ++ map 0 2 keep01 ++ map 1 2 keep01 ++ map 2 3 keep01 ++ map 3 4 keep01 ++ kind 3 4 SurjThen
    ++ auxiliary 0 1 ++ auxiliary 1 2 ++ auxiliary 2 3) room
    (accepted one_rule)

-- An X leaves a kind that its pair has: SurjThen emits its rule.
abbrev keeps_kind : Example
keeps_kind = flattens signature (rule 0 q ++ houses2 ++ linked ++ map 0 1 keep01 ++ kind 0 1 SurjThen ++ auxiliary 0 1) room
    (accepted one_rule)

-- Owners are compared by name and type: variables 0 and 2 both print a12.
abbrev in_bay : ℕ → ℕ → Statement
in_bay house bay = stmt predicate 0 (house ∷ bay ∷ [])

abbrev owners_by_name : Example
owners_by_name = scopes signature
    (group q (var 0 a12 ∷ var 1 a ∷ var 0 a12 ∷ []) (flat_rule q0 (in_bay 2 1 ∷ []) (in_bay 0 1 ∷ in_bay 2 1 ∷ []) ∷ [])) 0
    (accepted (model 0 (0 ∷ []))) (0 ∷ 0 ∷ [])

abbrev pub examples : List Example
examples = member_order ∷ parent_free ∷ by_image ∷ lowest_source ∷ keeps_kind ∷ owners_by_name ∷ []

pub examples_hold : All examples
unfolding opened
examples_hold = (refl, (refl, (refl, (refl, (refl, ((refl, refl), tt))))))
