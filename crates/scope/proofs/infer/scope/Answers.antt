use mathlib.Core.Path.{refl}
use Rattle.std.proofs.Common.{ap, length}
use Rattle.group.specs.Lookups.{Accepted}
use Rattle.records.proofs.Results.{passed_on}
use Rattle.scope.proofs.Whole.{signature_refused, group_refused, no_rule, rule_answer, owners_stand}
use Rattle.scope.proofs.infer.scope.Goals as goal

pub returns-in_err-signature-clause-result_value : goal.returns-in_err-signature-clause-result_value
returns-in_err-signature-clause-result_value c =
    rw (passed_on c.from_residual.ensures) (signature_refused _ _ _ c.read_signature.ensures c.in_err-signature.was)

pub returns-in-Err-clause-result_value : goal.returns-in-Err-clause-result_value
returns-in-Err-clause-result_value c =
    group_refused _ _ _ c.read_signature.ensures c.in_ok-signature.was c.in-Err.ensures.value refl

pub returns-then-rules-position-clause-result_value : goal.returns-then-rules-position-clause-result_value
returns-then-rules-position-clause-result_value c =
    no_rule _ _ _ c.read_signature.ensures c.in_ok-signature.was c.in-Ok.ensures.value {g = c.in-Ok.found} refl
    (rw c.rules.ensures at c.if-rules-position.true)

pub returns-clause-result_value : goal.returns-clause-result_value
returns-clause-result_value c =
    let sig = ap (λ (g : Accepted). g.signature) c.of.ensures.group in
    let bytes = ap (λ (g : Accepted). g.bytes) c.of.ensures.group in
    rule_answer _ _ _ c.read_signature.ensures c.in_ok-signature.was c.in-Ok.ensures.value refl
    (rw c.rules.ensures at c.if-rules-position.false) c.in-Ok.ensures.read _
    (rw (sig, bytes) at (c.rule_scope.ensures.result_value _ c.of.ensures.says))

pub returns-clause-owners_stand : goal.returns-clause-owners_stand
returns-clause-owners_stand c =
    rw c.in-Ok.ensures.read.1 at (owners_stand c.in-Ok.found c.args.position c.of.result c.of.ensures.first c.rule_scope.result _
    c.rule_scope.ensures.owners_from (ap (λ (g : Accepted). length g.bytes) c.of.ensures.group))
