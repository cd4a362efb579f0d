use borrow.Author.Rules.{rules}
use mathlib.Core.Logic.{◌⊎◌}
use mathlib.Core.Path.{◌≡◌}
use Rattle.std.specs.Prelude.{Some, None}
use Rattle.rule.specs.declared.tail.MorphismKind.TheVariants as variant
use Rattle.writer.proofs.Ruling.{surj_emits, rows_emit, none_emits}
use Rattle.writer.proofs.rules.emits_by_tables.Goals as goal

pub returns-in-Some-SurjThen : goal.returns-in-Some-SurjThen
returns-in-Some-SurjThen c = let k : c.reached_by.result ≡ Some variant.SurjThen = search rules in surj_emits _ (rw k at c.reached_by.ensures)

pub returns-in-Some-NonSurjThen : goal.returns-in-Some-NonSurjThen
returns-in-Some-NonSurjThen c =
    let k : c.reached_by.result ≡ Some variant.NonSurjThen = search rules in rw c.none_set.ensures (rows_emit _ (rw k at c.reached_by.ensures))

pub returns-in-Some-If : goal.returns-in-Some-If
returns-in-Some-If c =
    let one : (c.reached_by.result ≡ Some variant.If) ⊎ ((c.reached_by.result ≡ Some variant.Noop) ⊎ (c.reached_by.result ≡ None)) = search rules in
    none_emits _ one c.reached_by.ensures

pub returns-in-Some-If-2 : goal.returns-in-Some-If-2
returns-in-Some-If-2 c =
    let one : (c.reached_by.result ≡ Some variant.If) ⊎ ((c.reached_by.result ≡ Some variant.Noop) ⊎ (c.reached_by.result ≡ None)) = search rules in
    none_emits _ one c.reached_by.ensures

pub returns-in-Some-If-3 : goal.returns-in-Some-If-3
returns-in-Some-If-3 c =
    let one : (c.reached_by.result ≡ Some variant.If) ⊎ ((c.reached_by.result ≡ Some variant.Noop) ⊎ (c.reached_by.result ≡ None)) = search rules in
    none_emits _ one c.reached_by.ensures
