-- The rule's answer from what the calls told, one behind the other: the pass over its fields, the checks of N, of the structures and of
-- M, K and X. The first fault answers; without one, a part that ended early is 2, and a whole one is accepted, with its index.
use Prim.Native.Nat.{ℕ, ◌≤◌}
use mathlib.Core.Bool.{Bool, true, false}
use mathlib.Core.List.{List}
use mathlib.Core.Path.{◌≡◌}
use lib.ListN.{length, get_or}
use Rattle.definition.specs.Base.{refused, accepted}
use Rattle.definition.specs.Letters.{letter_n, letter_s}
use Rattle.definition.specs.Limits.{rule_bytes}
use Rattle.definition.specs.Records.{Field, Block, with_letter, blocks, fault_among}
use Rattle.definition.specs.Signature.{Signature}
use Rattle.definition.specs.Rule.{head_fault, structures_fault, named_in, rule_part, rule_of, read_rule}
use Rattle.records.specs.Places.{Run}
use Rattle.std.proofs.Common.{Ok}
use Rattle.rule.specs.Elements.{numbers_in}
use Rattle.rule.specs.Faults.{tail_fault}
use Rattle.rule.specs.Answers.{Structured, Tailed, Passes, AllStored, AllHold, Indexed}
use mathlib.Core.Option.{Option, none, some}
use Rattle.rule.proofs.Whole.{read_head, read_structures, read_tail, read_part_lem, read_sound, no_fault, read_indexed}
use Rattle.rule.proofs.Whole.{structured, head_run, ended_same, ended_tail, ended_named}

module _ (sig : Signature) {s index : List ℕ} {whole : Bool} {n : ℕ} (short : length s ≤ rule_bytes) (p : Passes s index whole n) where
  abbrev Head : Option ℕ → Type 0
  Head f = (fs : List Field) → Run s (get_or index 0 0) (get_or index 1 0) (with_letter letter_n fs) → f ≡ fault_among letter_n head_fault fs

  abbrev Structures : Option ℕ → Type 0
  Structures f = (bs : List Block) → Structured s index n bs → f ≡ structures_fault sig 0 bs

  head_fault_lem : {f : Option ℕ} → Head f → f ≡ fault_among letter_n head_fault (rule_part s).fields
  head_fault_lem head = head _ (head_run p)

  pub answer_head : {k : ℕ} → Head (some k) → refused k ≡ read_rule sig s
  answer_head head = read_head sig s short (head_fault_lem head)

  module _ (head : Head none) where
    pub answer_structures : {k : ℕ} → Structures (some k) → refused k ≡ read_rule sig s
    answer_structures checked = read_structures sig s short (head_fault_lem head) (checked _ (structured p))

    module _ {index' : List ℕ} {u : Unit} (checked : Structures none) (held : (bs : List Block) → Structured s index n bs → AllHold (Ok u) s index' n bs)
        (stored : AllStored (Ok u) s index index' n) where
      abbrev Tail : Option ℕ → Type 0
      Tail f = (fs : List Field) → Tailed s index' fs → numbers_in s index' n ≡ named_in fs → f ≡ tail_fault fs

      hold : AllHold (Ok u) s index' n (blocks letter_s (rule_part s).fields)
      hold = held _ (structured p)

      tail_fault_lem : {f : Option ℕ} → Tail f → f ≡ tail_fault (rule_part s).fields
      tail_fault_lem tail = tail _ (ended_tail p stored.kept stored.known) (ended_named p stored.kept stored.known hold)

      pub answer_tail : {k : ℕ} → Tail (some k) → refused k ≡ read_rule sig s
      answer_tail tail = read_tail sig s short (head_fault_lem head) (checked _ (structured p)) (tail_fault_lem tail)

      module _ (tail : Tail none) where
        pub answer_part : whole ≡ false → refused 2 ≡ read_rule sig s
        answer_part = read_part_lem sig s short (head_fault_lem head) (checked _ (structured p)) (tail_fault_lem tail) (ended_same p stored.kept stored.known)

        pub answer_sound : whole ≡ true → accepted (rule_of (rule_part s).fields) ≡ read_rule sig s
        answer_sound = read_sound sig s short (head_fault_lem head) (checked _ (structured p)) (tail_fault_lem tail) (ended_same p stored.kept stored.known)

        pub answer_indexed : whole ≡ true → Indexed sig s index' n
        answer_indexed = read_indexed p stored.kept stored.known hold sig
            (no_fault sig s short (head_fault_lem head) (checked _ (structured p)) (tail_fault_lem tail))
