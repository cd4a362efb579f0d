use Rattle.records.proofs.Results.{passed_on}
use Prim.Native.Nat.{◌*◌}
use Rattle.std.proofs.Common.{arith}
use Rattle.flatten.proofs.Writing.{untyped, unsigned, unread, flatten_read, none_written, all_said}
use Rattle.definition.specs.Limits.{field_limit, variable_limit}
use Rattle.flatten.proofs.entry.flatten.Goals as goal

pub returns-in_err-signature : goal.returns-in_err-signature
returns-in_err-signature c =
    let said = none_written _ _ _ _ _ (unsigned _ _ _ c.read_signature.ensures c.in_err-signature.was) in
    rw (passed_on c.from_residual.ensures) (record { value = said.0; out_after = said.1.0; demanded = said.1.1 })

pub returns-in_err-accepted : goal.returns-in_err-accepted
returns-in_err-accepted c =
    let said = none_written _ _ _ _ _ (unread _ _ _ c.read_signature.ensures c.in_ok-signature.was c.read_rule.ensures.value c.in_err-accepted.was) in
    rw (passed_on c.from_residual-in_err-accepted.ensures) (record { value = said.0; out_after = said.1.0; demanded = said.1.1 })

pub flatten_rule-requires : goal.flatten_rule-requires
flatten_rule-requires c =
    let n = c.structures.ensures.count_value in let h = c.if-structures-le-FEW_STRUCTURES.true in untyped (field_limit * 4) (omega arith)

pub returns-then-structures-le-FEW_STRUCTURES : goal.returns-then-structures-le-FEW_STRUCTURES
returns-then-structures-le-FEW_STRUCTURES c =
    let k = c.in_ok-accepted.ensures.signature_kept in
    let read = flatten_read _ _ _ c.read_signature.ensures c.in_ok-signature.was c.read_rule.ensures.value c.in_ok-accepted.was k in
    let said = all_said _ _ _ c.flatten_rule.ensures read in
    record { value = said.0; out_after = said.1.0; demanded = said.1.1 }

pub flatten_rule-requires-2 : goal.flatten_rule-requires-2
flatten_rule-requires-2 c = let h = c.structures.ensures.sound.sound.structures_few in untyped variable_limit (omega arith)

pub returns : goal.returns
returns c =
    let k = c.in_ok-accepted.ensures.signature_kept in
    let read = flatten_read _ _ _ c.read_signature.ensures c.in_ok-signature.was c.read_rule.ensures.value c.in_ok-accepted.was k in
    let said = all_said _ _ _ c.flatten_rule-2.ensures read in
    record { value = said.0; out_after = said.1.0; demanded = said.1.1 }
