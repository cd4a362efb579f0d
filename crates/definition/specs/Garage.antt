-- Garage examples: g1 to g11, a list with a single claim that the checker computes.
use Rattle.std.specs.Prelude.{◌≡◌, refl, List, [], ◌∷◌, ◌++◌, ℕ, length}
use Rattle.definition.specs.Base.{Outcome, refused, accepted}
use Rattle.definition.specs.Letters.{
  letter_t,
  letter_p,
  letter_f,
  letter_n,
  letter_s,
  letter_e,
  letter_r,
  letter_a,
  letter_v,
  letter_i,
  letter_m,
  letter_k,
  letter_x,
  predicate,
  function,
  equality,
  type_set,
  func_domain,
}
use Rattle.definition.specs.Group.{Variable, Statement, FlatRule}
use Rattle.definition.specs.Writer.{two_bytes, number_bytes, field_bytes, group_bytes_of}
use Rattle.definition.specs.Flatten.{flatten_of}
use Rattle.definition.specs.Scope.{Scope, global, scope_of, owners_of}
use Rattle.definition.specs.Opened.{opened}

-- Fields as bytes.
abbrev pub field : ℕ → List ℕ → List ℕ
field letter content = field_bytes (record { letter = letter; content = content })

abbrev pub typ : List ℕ → List ℕ
typ parents = field letter_t (number_bytes parents)

abbrev pub pred : List ℕ → List ℕ → List ℕ
pred parents arguments = field letter_p (length parents ∷ number_bytes (parents ++ arguments))

abbrev pub func : List ℕ → List ℕ → ℕ → List ℕ
func parents domain codomain = field letter_f (length parents ∷ number_bytes (parents ++ domain ++ (codomain ∷ [])))

abbrev pub rule : ℕ → List ℕ → List ℕ
rule index name = field letter_n (two_bytes index ++ name)

abbrev pub structure : List ℕ
structure = field letter_s []

abbrev pub element : ℕ → ℕ → List ℕ → List ℕ
element number type parents = field letter_e (number_bytes (number ∷ type ∷ parents))

abbrev pub row : ℕ → List ℕ → List ℕ
row p elements = field letter_r (number_bytes (p ∷ elements))

abbrev pub app : ℕ → List ℕ → ℕ → List ℕ
app f elements result = field letter_a (number_bytes (f ∷ elements ++ (result ∷ [])))

abbrev pub variable : ℕ → List ℕ → List ℕ
variable e name = field letter_v (two_bytes e ++ name)

abbrev pub identifier : ℕ → ℕ → List ℕ → List ℕ
identifier term e name = field letter_i (two_bytes term ++ two_bytes e ++ name)

abbrev pub map : ℕ → ℕ → List ℕ → List ℕ
map source target keys_and_images = field letter_m (number_bytes (source ∷ target ∷ keys_and_images))

abbrev pub kind : ℕ → ℕ → ℕ → List ℕ
kind source target k = field letter_k (two_bytes source ++ two_bytes target ++ (k ∷ []))

abbrev pub auxiliary : ℕ → ℕ → List ℕ
auxiliary class s = field letter_x (class ∷ two_bytes s)

-- The bytes of the kinds.
abbrev pub If : ℕ
If = 0

abbrev pub SurjThen : ℕ
SurjThen = 1

abbrev pub NonSurjThen : ℕ
NonSurjThen = 2

-- Statements of a group.
abbrev pub stmt : ℕ → ℕ → List ℕ → Statement
stmt kind symbol variables = record { kind = kind; symbol = symbol; variables = variables }

abbrev pub var : ℕ → List ℕ → Variable
var type name = record { type = type; name = name }

abbrev pub flat_rule : List ℕ → List Statement → List Statement → FlatRule
flat_rule name premise conclusion = record { name = name; premise = premise; conclusion = conclusion }

abbrev pub group : List ℕ → List Variable → List FlatRule → List ℕ
group name variables rules = group_bytes_of (record { name = name; variables = variables; rules = rules })

-- 'Type 0 parentless, predicate 0 of two columns, function 0 from type 0 to type 0.'
abbrev signature : List ℕ
signature = typ [] ++ pred [] (0 ∷ 0 ∷ []) ++ func [] (0 ∷ []) 0

-- The names r, x, y, and those of variables and rules.
abbrev r : List ℕ
r = 114 ∷ []

abbrev x : List ℕ
x = 120 ∷ []

abbrev y : List ℕ
y = 121 ∷ []

abbrev x0 : Variable
x0 = var 0 (120 ∷ 48 ∷ [])

abbrev y1 : Variable
y1 = var 0 (121 ∷ 49 ∷ [])

abbrev el2 : Variable
el2 = var 0 (101 ∷ 108 ∷ 50 ∷ [])

abbrev r0 : List ℕ
r0 = 114 ∷ 95 ∷ 48 ∷ []

-- 'Rule `r`: structure 0 has elements 0, 1, row (0,1), names x, y.'
abbrev names : List ℕ
names = variable 0 x ++ variable 1 y

abbrev structure0 : List ℕ
structure0 = structure ++ element 0 0 [] ++ element 1 0 [] ++ row 0 (0 ∷ 1 ∷ []) ++ names

abbrev begin : List ℕ
begin = rule 0 r ++ structure0

-- The statements of structure 0.
abbrev row01 : Statement
row01 = stmt predicate 0 (0 ∷ 1 ∷ [])

abbrev set0 : Statement
set0 = stmt type_set 0 (0 ∷ [])

abbrev set1 : Statement
set1 = stmt type_set 0 (1 ∷ [])

abbrev premise0 : List Statement
premise0 = row01 ∷ set0 ∷ set1 ∷ []

-- The maps that keep elements 0 and 1, and 0, 1 and 2.
abbrev keep01 : List ℕ
keep01 = 0 ∷ 0 ∷ 1 ∷ 1 ∷ []

abbrev keep012 : List ℕ
keep012 = 0 ∷ 0 ∷ 1 ∷ 1 ∷ 2 ∷ 2 ∷ []

-- What is claimed: of flatten (signature, rule, room), of scope and its owners (signature, group, position).
pub data Example : Type 0 where
  flattens : List ℕ → List ℕ → ℕ → Outcome (List ℕ) → Example
  scopes : List ℕ → List ℕ → ℕ → Outcome Scope → List ℕ → Example

abbrev pub Holds : Example → Type 0
Holds (flattens signature rule room answer) = flatten_of signature rule room ≡ answer
Holds (scopes signature group position scope owners) = (scope_of signature group position ≡ scope) × (owners_of signature group position ≡ owners)

abbrev pub All : List Example → Type 0
All [] = Unit
All (e ∷ es) = Holds e × All es

abbrev pub room : ℕ
room = 65535

-- g1 'SurjThen by identity, 1 adds row (1,0)'; its group, 60 bytes.
abbrev rule1 : List ℕ
rule1 = begin
    ++ structure ++ element 0 0 [] ++ element 1 0 [] ++ row 0 (0 ∷ 1 ∷ []) ++ row 0 (1 ∷ 0 ∷ []) ++ names
    ++ map 0 1 keep01 ++ kind 0 1 SurjThen

abbrev group1 : List ℕ
group1 = 0x47 ∷ 0x00 ∷ 0x01 ∷ 0x72
    ∷ 0x57 ∷ 0x00 ∷ 0x04 ∷ 0x00 ∷ 0x00 ∷ 0x78 ∷ 0x30
    ∷ 0x57 ∷ 0x00 ∷ 0x04 ∷ 0x00 ∷ 0x00 ∷ 0x79 ∷ 0x31
    ∷ 0x55 ∷ 0x00 ∷ 0x03 ∷ 0x72 ∷ 0x5F ∷ 0x30
    ∷ 0x42 ∷ 0x00 ∷ 0x07 ∷ 0x00 ∷ 0x00 ∷ 0x00 ∷ 0x00 ∷ 0x00 ∷ 0x00 ∷ 0x01
    ∷ 0x42 ∷ 0x00 ∷ 0x05 ∷ 0x04 ∷ 0x00 ∷ 0x00 ∷ 0x00 ∷ 0x00
    ∷ 0x42 ∷ 0x00 ∷ 0x05 ∷ 0x04 ∷ 0x00 ∷ 0x00 ∷ 0x00 ∷ 0x01
    ∷ 0x48 ∷ 0x00 ∷ 0x07 ∷ 0x00 ∷ 0x00 ∷ 0x00 ∷ 0x00 ∷ 0x01 ∷ 0x00 ∷ 0x00 ∷ []

abbrev g1 : Example
g1 = flattens signature rule1 60 (accepted group1)

-- g2 'the same, buffer 59: 31'.
abbrev g2 : Example
g2 = flattens signature rule1 59 (refused 31)

-- g3 'If adds element 2 and row (1,2); a SurjThen by identity leads on to structure 2, equal to 1.'
abbrev structure1 : List ℕ
structure1 = structure ++ element 0 0 [] ++ element 1 0 [] ++ element 2 0 [] ++ row 0 (0 ∷ 1 ∷ []) ++ row 0 (1 ∷ 2 ∷ []) ++ names

abbrev g3 : Example
g3 = flattens signature
    (begin ++ structure1 ++ structure1 ++ map 0 1 keep01 ++ map 1 2 keep012 ++ kind 0 1 If ++ kind 1 2 SurjThen) room
    (accepted (group r (x0 ∷ y1 ∷ el2 ∷ []) (flat_rule r0 (row01 ∷ set0 ∷ set1 ∷ stmt predicate 0 (1 ∷ 2 ∷ []) ∷ []) [] ∷ [])))

-- g4 'If sends 0 and 1 to one element with row (0,0), then SurjThen as in g3: the premise ends with Equality (0,1), and the
-- element is variable 1.' The last SurjThen adds the function row (0,0), which shows the variable.
abbrev one : List ℕ
one = structure ++ element 0 0 [] ++ row 0 (0 ∷ 0 ∷ [])

abbrev g4 : Example
g4 = flattens signature (begin ++ one ++ one ++ map 0 1 (0 ∷ 0 ∷ 1 ∷ 0 ∷ []) ++ map 1 2 (0 ∷ 0 ∷ []) ++ kind 0 1 If ++ kind 1 2 SurjThen) room
    (accepted (group r (x0 ∷ y1 ∷ []) (flat_rule r0 (row01 ∷ set0 ∷ set1 ∷ stmt equality 0 (0 ∷ 1 ∷ []) ∷ []) [] ∷ [])))

abbrev g4' : Example
g4' = flattens signature (begin ++ one ++ one ++ app 0 (0 ∷ []) 0 ++ map 0 1 (0 ∷ 0 ∷ 1 ∷ 0 ∷ []) ++ map 1 2 (0 ∷ 0 ∷ [])
    ++ kind 0 1 If ++ kind 1 2 SurjThen) room
    (accepted (group r (x0 ∷ y1 ∷ [])
    (flat_rule r0 (row01 ∷ set0 ∷ set1 ∷ stmt equality 0 (0 ∷ 1 ∷ []) ∷ []) (stmt function 0 (1 ∷ 1 ∷ []) ∷ []) ∷ [])))

-- g5 'NonSurjThen adds 2, the function of 1: FuncDomain (1)'.
abbrev with2 : List ℕ
with2 = structure ++ element 0 0 [] ++ element 1 0 [] ++ element 2 0 [] ++ row 0 (0 ∷ 1 ∷ []) ++ app 0 (1 ∷ []) 2 ++ names

abbrev g5 : Example
g5 = flattens signature (begin ++ with2 ++ map 0 1 keep01 ++ kind 0 1 NonSurjThen) room
    (accepted (group r (x0 ∷ y1 ∷ el2 ∷ []) (flat_rule r0 premise0 (stmt func_domain 0 (1 ∷ []) ∷ []) ∷ [])))

-- g6 'NonSurjThen by identity: no rule; a later rule still gets the name with count 0'.
abbrev g6 : Example
g6 = flattens signature (begin ++ structure0 ++ map 0 1 keep01 ++ kind 0 1 NonSurjThen) room
    (accepted (group r (x0 ∷ y1 ∷ []) []))

abbrev g6' : Example
g6' = flattens signature (begin ++ structure0 ++ structure0 ++ map 0 1 keep01 ++ map 1 2 keep01 ++ kind 0 1 NonSurjThen ++ kind 1 2 SurjThen) room
    (accepted (group r (x0 ∷ y1 ∷ []) (flat_rule r0 premise0 [] ∷ [])))

-- g7 'two new elements: 28'.
abbrev g7 : Example
g7 = flattens signature (begin ++ structure ++ element 0 0 [] ++ element 1 0 [] ++ element 2 0 [] ++ element 3 0 [] ++ row 0 (0 ∷ 1 ∷ []) ++ names
    ++ map 0 1 keep01 ++ kind 0 1 NonSurjThen) room (refused 28)

-- g8 'a map and kind from structure 1 to 2, no kind into 1: 23; a map and kind from 0 to 0: 24'.
abbrev g8 : Example
g8 = flattens signature (begin ++ structure0 ++ structure0 ++ map 0 1 keep01 ++ map 1 2 keep01 ++ kind 1 2 SurjThen) room (refused 23)

abbrev g8' : Example
g8' = flattens signature (begin ++ map 0 0 keep01 ++ kind 0 0 SurjThen) room (refused 24)

-- g9 'three keys in a fiber: (0,1), (0,2), (1,2)'.
abbrev g9 : Example
g9 = flattens signature
    (rule 0 r ++ structure ++ element 0 0 [] ++ element 1 0 [] ++ element 2 0 [] ++ row 0 (0 ∷ 1 ∷ []) ++ names
    ++ one ++ map 0 1 (0 ∷ 0 ∷ 1 ∷ 0 ∷ 2 ∷ 0 ∷ []) ++ kind 0 1 SurjThen) room
    (accepted (group r (x0 ∷ y1 ∷ el2 ∷ []) (flat_rule r0 (row01 ∷ set0 ∷ set1 ∷ stmt type_set 0 (2 ∷ []) ∷ [])
    (stmt equality 0 (0 ∷ 1 ∷ []) ∷ stmt equality 0 (0 ∷ 2 ∷ []) ∷ stmt equality 0 (1 ∷ 2 ∷ []) ∷ []) ∷ [])))

-- g10 'no elements, no kinds: `47 00 01 72`'.
abbrev g10 : Example
g10 = flattens signature (rule 0 r ++ structure) room (accepted (0x47 ∷ 0x00 ∷ 0x01 ∷ 0x72 ∷ []))

-- g11 'SurjThen between empty structures: empty premise and conclusion, global'.
abbrev group11 : List ℕ
group11 = group r [] (flat_rule r0 [] [] ∷ [])

abbrev g11 : Example
g11 = flattens signature (rule 0 r ++ structure ++ structure ++ map 0 1 [] ++ kind 0 1 SurjThen) room (accepted group11)

abbrev g11' : Example
g11' = scopes signature group11 0 (accepted global) []

abbrev pub garage : List Example
garage = g1 ∷ g2 ∷ g3 ∷ g4 ∷ g4' ∷ g5 ∷ g6 ∷ g6' ∷ g7 ∷ g8 ∷ g8' ∷ g9 ∷ g10 ∷ g11 ∷ g11' ∷ []

pub garage_holds : All garage
unfolding opened
garage_holds = (refl, (refl, (refl, (refl, (refl, (refl, (refl, (refl, (refl, (refl, (refl, (refl, (refl, (refl, ((refl, refl), tt)))))))))))))))
