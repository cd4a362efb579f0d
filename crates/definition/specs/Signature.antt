-- Records, signature: T, P and F fields, their faults, and the arities they give.
use Rattle.std.specs.Prelude.{Bool, not, ◌||◌, List, [], ◌∷◌, ℕ, ◌+◌, ◌-◌, ltb, leb, length, take, drop, get_or}
use Rattle.std.proofs.Math.Option.{Option, none}
use Rattle.definition.specs.Base.{Outcome, refused, pick, or_else, each, all, last_of, lowest}
use Rattle.definition.specs.Limits.{signature_bytes, symbol_limit, parent_limit, column_limit}
use Rattle.definition.specs.Letters.{letter_t, letter_p, letter_f, start}
use Rattle.definition.specs.Records.{Field, Part, Grammar, numbers, fields_of, placed, with_letter, fault_among, odd, not_numbers, read_part}

-- A predicate or function: 'parents', and behind them 'argument types', or 'domain, then codomain'.
pub record Symbol : Type 0 where
  pub parents : List ℕ
  pub others : List ℕ

-- A type is the list of its parents. 'Each symbol's number is its position among its letter.'
pub record Signature : Type 0 where
  pub types : List (List ℕ)
  pub preds : List Symbol
  pub funcs : List Symbol

-- 'Signature: T fields, then P, then F.'
abbrev pub signature_grammar : Grammar
signature_grammar = record {
  places = record { letter = letter_t; behind = start ∷ letter_t ∷ [] }
      ∷ record { letter = letter_p; behind = start ∷ letter_t ∷ letter_p ∷ [] }
      ∷ record { letter = letter_f; behind = start ∷ letter_t ∷ letter_p ∷ letter_f ∷ [] } ∷ [];
  last = start ∷ letter_t ∷ letter_p ∷ letter_f ∷ [];
}

-- P and F: 'a byte counting parents'.
abbrev pub parent_count : List ℕ → ℕ
parent_count content = get_or content 0 0

-- P and F: 'parents, argument types', of an F 'domain, then codomain'.
abbrev pub columns_of : List ℕ → List ℕ
columns_of content = numbers (drop 1 content)

-- 'P (a byte counting parents, parents, argument types), then F (the same, domain, then codomain)'.
unfoldable pub symbol_of : Field → Symbol
symbol_of f = record {
  parents = take (parent_count f.content) (columns_of f.content);
  others = drop (parent_count f.content) (columns_of f.content);
}

-- Whether every number names one of so many; else 5 'a number naming nothing'.
abbrev pub named : ℕ → List ℕ → Bool
named count = all (λ (n : ℕ). ltb n count)

-- 'in one field the lowest number', of a T: 3, 4, 5.
unfoldable pub type_fault : ℕ → ℕ → Option Field → Field → Option ℕ
type_fault types before last f = lowest (
    (3, not_numbers 0 f.content)
    ∷ (4, leb symbol_limit before || ltb parent_limit (length (numbers f.content)))
    ∷ (5, not (named types (numbers f.content))) ∷ [])

-- 'in one field the lowest number', of a P (results 0) or an F (results 1: its byte leaves a codomain): 3, 4, 5.
unfoldable pub symbol_fault : ℕ → ℕ → ℕ → Option Field → Field → Option ℕ
symbol_fault results types before last f = lowest (
    (3, not (odd (length f.content)) || ltb (length (columns_of f.content)) (parent_count f.content + results))
    ∷ (4, leb symbol_limit before || ltb column_limit (length (columns_of f.content)))
    ∷ (5, not (named types (columns_of f.content))) ∷ [])

-- 'first faulty field from the front', where 'every T can be named'.
unfoldable pub signature_fault : List Field → Option ℕ
signature_fault fs =
    or_else (fault_among letter_t (type_fault (length (with_letter letter_t fs))) fs)
    (or_else (fault_among letter_p (symbol_fault 0 (length (with_letter letter_t fs))) fs)
    (fault_among letter_f (symbol_fault 1 (length (with_letter letter_t fs))) fs))

-- 'Each symbol's number is its position among its letter.'
unfoldable pub signature_of : List Field → Signature
signature_of fs = record {
  types = each (λ (f : Field). numbers f.content) (with_letter letter_t fs);
  preds = each symbol_of (with_letter letter_p fs);
  funcs = each symbol_of (with_letter letter_f fs);
}

-- 'before the first field that draws 2'.
unfoldable pub signature_part : List ℕ → Part
signature_part bytes = placed signature_grammar start (fields_of bytes)

-- 1 'signature over 32,768 bytes', else as its fields have it.
unfoldable pub read_signature : List ℕ → Outcome Signature
read_signature bytes = pick (ltb signature_bytes (length bytes)) (refused 1)
    (read_part (signature_part bytes) (signature_fault (signature_part bytes).fields) (signature_of (signature_part bytes).fields))

-- What stands where a number names no predicate or function.
abbrev pub no_symbol : Symbol
no_symbol = record { parents = []; others = [] }

-- 'T fields (parent types)': the parents of a type by its number.
abbrev pub type_parents : Signature → ℕ → List ℕ
type_parents sig t = get_or sig.types t []

-- 'Each symbol's number is its position among its letter': the predicate of a number.
abbrev pub pred_of : Signature → ℕ → Symbol
pred_of sig p = get_or sig.preds p no_symbol

-- 'Each symbol's number is its position among its letter': the function of a number.
abbrev pub func_of : Signature → ℕ → Symbol
func_of sig f = get_or sig.funcs f no_symbol

-- 'columns in all, a result counted'.
abbrev pub column_count : Symbol → ℕ
column_count s = length s.parents + length s.others

-- 7: the columns of a statement by kind ('Equality two, TypeSet one, FuncDomain the function's row without its result').
unfoldable pub arity : Signature → ℕ → ℕ → ℕ
arity sig kind symbol = get_or (
    column_count (pred_of sig symbol)
    ∷ column_count (func_of sig symbol)
    ∷ (length (type_parents sig symbol) + 1)
    ∷ 2
    ∷ 1
    ∷ (column_count (func_of sig symbol) - 1) ∷ []) kind 0

-- How many symbols a kind's number may name ('3 and 4 carry a type').
unfoldable pub symbol_count : Signature → ℕ → ℕ
symbol_count sig kind = get_or (
    length sig.preds
    ∷ length sig.funcs
    ∷ length sig.types
    ∷ length sig.types
    ∷ length sig.types
    ∷ length sig.funcs ∷ []) kind 0

-- Scope: 'The model is the last parent'; none of an Equality or a TypeSet.
unfoldable pub parent_model : Signature → ℕ → ℕ → Option ℕ
parent_model sig kind symbol = get_or (
    last_of (pred_of sig symbol).parents
    ∷ last_of (func_of sig symbol).parents
    ∷ last_of (type_parents sig symbol)
    ∷ none
    ∷ none
    ∷ last_of (func_of sig symbol).parents ∷ []) kind none
