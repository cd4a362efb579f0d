use mathlib.Core.Path.{◌≡◌, sym, ◌∙◌}
use borrow.Author.Rules.{rules}
use Rattle.rows.proofs.KernelLaws.{type_at, later_all, later_other, later_same, later_clash, later_end}
use Rattle.rows.proofs.kernel.clashes_later.Goals.{else-eq-via-else-eq, else-eq-via-then-eq+else-types-from}
use Rattle.rows.proofs.kernel.clashes_later.Goals as goal

pub returns-then-types-from : goal.returns-then-types-from
returns-then-types-from c =
    λ type f.
    let same : c.image.result.0 ≡ c.image-image.result.0 = search rules in
    sym (later_all type _ _ ∙ c.loop-q.invariant type f
    ∙ later_clash type _ _ _ (search rules) (sym c.image-image.ensures ∙ sym same ∙ c.image.ensures)
    (λ e. c.if-types-from.true (type_at f _ (search rules) c.from-then-eq.ensures ∙ sym e ∙ sym (type_at f _ c.requires.p_lt_pairs c.from.ensures))))

pub loop-q-preserved : goal.loop-q-preserved
loop-q-preserved c =
    λ type f. c.loop-q.invariant type f
    ∙ elim c.else-eq.branch [
      | else-eq-via-then-eq+else-types-from w ↦ later_same type _ _ _ (search rules)
          (sym (type_at f _ c.requires.p_lt_pairs c.from.ensures) ∙ sym w.if-types-from.false ∙ type_at f _ (search rules) w.from-then-eq.ensures)
      | else-eq-via-else-eq w ↦
          let other : c.image.result.0 ≡ c.image-image.result.0 → ⊥ = search rules in
          later_other type _ _ _ (search rules) (λ e. other (c.image.ensures ∙ sym e ∙ sym c.image-image.ensures))
    ]

pub returns : goal.returns
returns c = λ type f. sym (later_all type _ _ ∙ c.loop-q.invariant type f ∙ later_end type _ _ _ (search rules))
