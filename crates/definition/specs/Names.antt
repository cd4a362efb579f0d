-- The walk: which variable an element gets, and the variables' names.
use Rattle.std.specs.Prelude.{List, [], ◌∷◌, ◌++◌, ℕ, zero, suc, ◌+◌, ◌/◌, ◌%◌, eqb, ltb, get_or}
use Rattle.std.proofs.Math.Option.{Option, none, some}
use Rattle.definition.specs.Base.{pick, or_else, or_default, keep, each, first_of, last_of, place_from}
use Rattle.definition.specs.Limits.{number_digits}
use Rattle.definition.specs.Letters.{digit_zero}
use Rattle.definition.specs.Rule.{Structure, Element, Name, Pair}
use Rattle.definition.specs.Group.{Variable}

-- A number in decimal, in at most so many digits.
unfoldable pub digits_to : ℕ → ℕ → List ℕ
digits_to zero n = []
digits_to (suc k) n = pick (ltb n 10) ((digit_zero + n) ∷ []) (digits_to k (n / 10) ++ ((digit_zero + n % 10) ∷ []))

-- 'a base followed by its number': the number, of two bytes, in decimal.
abbrev pub decimal : ℕ → List ℕ
decimal n = digits_to number_digits n

-- A structure's element numbers, ascending.
unfoldable pub numbers_of : Structure → List ℕ
numbers_of st = each (λ (e : Element). e.number) st.elements

-- The variable of an element, among the variables of its structure's elements in their order.
unfoldable pub variable_at : Structure → List ℕ → ℕ → ℕ
variable_at st variables e = get_or variables (place_from 0 e (numbers_of st)) 0

-- 'keys in a fiber': those with an image, ascending.
unfoldable pub fiber : List Pair → ℕ → List ℕ
fiber pairs e = each (λ (p : Pair). p.key) (keep (λ (p : Pair). eqb p.image e) pairs)

-- 'by ascending key, the image takes the key's variable, a later key replacing': the last key with that image.
unfoldable pub carried_key : List Pair → ℕ → Option ℕ
carried_key pairs e = last_of (fiber pairs e)

-- The variable of the key that an element takes over, if any.
abbrev pub over_map : (ℕ → ℕ) → Option ℕ → Option ℕ
over_map variable none = none
over_map variable (some key) = some (variable key)

-- 'the image takes the key's variable': what each element of the target takes over.
unfoldable pub carried : Structure → List ℕ → List Pair → Structure → List (Option ℕ)
carried source variables pairs target =
    each (λ (e : ℕ). over_map (variable_at source variables) (carried_key pairs e)) (numbers_of target)

-- 'target elements then without one get the next numbers'.
unfoldable pub numbered : ℕ → List (Option ℕ) → List ℕ
numbered next [] = []
numbered next (some v ∷ cs) = v ∷ numbered next cs
numbered next (none ∷ cs) = next ∷ numbered (next + 1) cs

-- A name's bytes, where it is the element's.
abbrev pub name_for : ℕ → Name → Option (List ℕ)
name_for e n = pick (eqb n.element e) (some n.name) none

-- `el`.
abbrev pub el : List ℕ
el = 101 ∷ 108 ∷ []

-- el_base_name: 'the first V name of its element, else its first I name, else `el`'.
unfoldable pub base_name : Structure → ℕ → List ℕ
base_name st e = or_default (or_else (first_of (name_for e) st.variable_names) (first_of (name_for e) st.identifier_names)) el

-- 'A new variable's name is a base followed by its number. Its type is that element's.'
unfoldable pub new_variable : Structure → ℕ → Element → Variable
new_variable st number e = record { type = e.type; name = base_name st e.number ++ decimal number }

-- 'target elements then without one get the next numbers': their variables, by what each element takes over.
unfoldable pub new_variables : Structure → ℕ → List Element → List (Option ℕ) → List Variable
new_variables st next [] cs = []
new_variables st next (e ∷ es) [] = []
new_variables st next (e ∷ es) (some v ∷ cs) = new_variables st next es cs
new_variables st next (e ∷ es) (none ∷ cs) = new_variable st next e ∷ new_variables st (next + 1) es cs
