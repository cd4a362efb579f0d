-- What the M, K and X fields of an accepted rule say.
use Rattle.std.specs.Prelude.{ℕ, List, [], ◌∷◌, ◌≡◌}
use Rattle.definition.specs.Records.{Field}
use Rattle.definition.specs.Rule.{Map, Kind, MorphismKind, If, SurjThen, NonSurjThen, Noop, map_of, kind_of, auxiliary_of}
use Rattle.definition.specs.Walk.{auxiliary_kind}
use Rattle.rule.specs.Lookup.{kind_is}
use Rattle.rule.specs.Pairs.{pairs_in_bytes}
use Rattle.rule.specs.declared.tail.MapField.{MapField}
use Rattle.rule.specs.declared.tail.KindField.{KindField}
use Rattle.rule.specs.declared.tail.AuxiliaryField.{AuxiliaryField}

-- The field of a content, whatever letter stands before it.
abbrev with_content : ℕ → List ℕ → Field
with_content letter content = record { letter = letter; content = content }

abbrev pub map_from : MapField → Map
map_from m = record { source = m.source; target = m.target; pairs = pairs_in_bytes m.pairs.now }

pub record MapOf (content : List ℕ) (m : MapField) : Type 0 where
  pub says : (letter : ℕ) → map_from m ≡ map_of (with_content letter content)

abbrev pub kind_from : KindField → Kind
kind_from k = record { source = k.source; target = k.target; kind = kind_is k.kind }

pub record KindOf (content : List ℕ) (k : KindField) : Type 0 where
  pub says : (letter : ℕ) → kind_from k ≡ kind_of (with_content letter content)

pub record AuxiliaryOf (content : List ℕ) (x : AuxiliaryField) : Type 0 where
  pub structure_is : (letter : ℕ) → x.structure ≡ (auxiliary_of (with_content letter content)).structure
  pub class_is : (letter : ℕ) → x.class ≡ (auxiliary_of (with_content letter content)).class
  pub kind_as : (letter : ℕ) → kind_is x.kind ≡ auxiliary_kind (auxiliary_of (with_content letter content)).class

-- The kinds by their byte; a byte above 3 stands for If.
abbrev pub kinds : List MorphismKind
kinds = If ∷ SurjThen ∷ NonSurjThen ∷ Noop ∷ []
