-- The sections of a rule of an accepted group.
use Prim.Native.Nat.{ℕ, zero, suc, ◌+◌, ◌-◌, ◌<◌}
use native.Mathlib.Omega.{arith}
use mathlib.Core.List.{List, [], ◌∷◌}
use mathlib.Core.Path.{◌≡◌, refl}
use lib.ListN.{length, get_or, take, drop}
use Rattle.definition.specs.Letters.{letter_u, letter_b, letter_h}
use Rattle.definition.specs.Records.{Field, Block, with_letter, blocks}
use Rattle.definition.specs.Group.{flat_rule_of, group_part}
use Rattle.definition.specs.Scope.{conclusion_at}
use Rattle.records.specs.Places.{stretch}
use Rattle.records.specs.Iter.{fields_in}
use Rattle.records.proofs.FieldsIn.{run_fields}
use Rattle.records.proofs.Numbers.{length_stretch}
use Rattle.records.proofs.Runs.{run_le, run_within}
use Rattle.group.specs.Index.{premises_at, conclusions_at, rule_end, no_block, Rules, Indexed}
use Rattle.group.specs.Sections.{Stated}
use Rattle.group.specs.Lookups.{Accepted, content, rule_numbered, no_field, SoundField, SectionsAt, RuleStands, statements_in}
use Rattle.group.proofs.SoundStatement.{sound_statement}
use Rattle.group.proofs.Values.{variables_length, rule_is}

-- A rule's sections lie in the record.
pub sections_are : {s index : List ℕ} {count k : ℕ} {bs : List Block} {premises conclusions end : ℕ} → Rules s index count bs → k < count
    → premises ≡ premises_at s index k → conclusions ≡ conclusions_at index k → end ≡ rule_end index k
    → SectionsAt s premises conclusions end (get_or bs k no_block)
sections_are {k = k} w h a b c =
    let r = w.each k h in
    rw (a, b, c) (record {
      premise = r.premise;
      conclusion = r.conclusion;
      premises_before = run_le r.premise;
      conclusions_before = run_le r.conclusion;
      within = run_within r.conclusion (run_within r.premise r.within);
    })

-- Fields without a fault are sound.
stated_sound : (g : Accepted) (letter variables : ℕ) → length (content g).variables ≡ variables → (fs : List Field)
    → Stated g.signature letter variables fs → (i : ℕ) → i < length fs → SoundField g (get_or fs i no_field)
stated_sound g letter variables e [] t i h = absurd (omega arith)
stated_sound g letter variables e (f ∷ fs) t zero h =
    let w = sound_statement g.signature letter variables f t.0 in
    record { long = w.long; says = record { symbol = w.symbol; named = record { each = rw e w.named } } }
stated_sound g letter variables e (f ∷ fs) t (suc i) h = stated_sound g letter variables e fs t.1 i (omega arith)

-- The parts of the group's bytes between the positions are the rule's sections.
module _ {g : Accepted} {index : List ℕ} {variables rules : ℕ} (w : Indexed g.signature g.bytes index variables rules) {k : ℕ} (h : k < rules)
    {premises conclusions end : ℕ}
    (at : SectionsAt g.bytes premises conclusions end (get_or (blocks letter_u (group_part g.bytes).fields) k no_block)) where
  abbrev block : Block
  block = get_or (blocks letter_u (group_part g.bytes).fields) k no_block

  abbrev first_part : List ℕ
  first_part = take (conclusions - premises) (drop premises g.bytes)

  abbrev second_part : List ℕ
  second_part = take (end - conclusions) (drop conclusions g.bytes)

  premise_fields : fields_in first_part ≡ with_letter letter_b block.body
  unfolding stretch
  premise_fields = let c = at.conclusions_before in let l = at.within in run_fields at.premise (omega arith)

  conclusion_fields : fields_in second_part ≡ with_letter letter_h block.body
  unfolding stretch
  conclusion_fields = run_fields at.conclusion at.within

  conclusion_long : length second_part ≡ end - conclusions
  unfolding stretch
  conclusion_long = let c = at.conclusions_before in let l = at.within in length_stretch g.bytes conclusions (end - conclusions) (omega arith)

  pub rule_stands : RuleStands g first_part second_part conclusions
  unfolding stretch
  rule_stands =
      let n = variables_length w.variable in
      let t = w.sound k h in
      let c = at.conclusions_before in let l = at.within in let q = conclusion_long in
      record {
        premise = record { each = rw premise_fields (stated_sound g letter_b variables n _ t.premise) };
        conclusion = record { each = rw conclusion_fields (stated_sound g letter_h variables n _ t.conclusion) };
        within = omega arith;
        same = rw q refl;
      }

  rule_there : rule_numbered g k ≡ flat_rule_of block
  rule_there = rule_is w.rule k (flat_rule_of no_block) h

  pub premise_says : (rule_numbered g k).premise ≡ statements_in first_part
  unfolding flat_rule_of statements_in
  premise_says = rw (rule_there, premise_fields) refl

  pub conclusion_says : (rule_numbered g k).conclusion ≡ statements_in second_part
  unfolding flat_rule_of statements_in
  conclusion_says = rw (rule_there, conclusion_fields) refl

  pub first_stands : conclusions ≡ conclusions_at index k → (fields_in second_part ≡ [] → ⊥)
      → conclusion_at (k + 1) (group_part g.bytes).fields 0 ≡ conclusions
  first_stands e q = rw e (w.first k h (rw conclusion_fields at q))
