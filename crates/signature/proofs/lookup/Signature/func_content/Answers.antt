use Rattle.std.proofs.Common.{arith, sym}
use Rattle.signature.proofs.Symbols.{func_at, func_sound, result_counted}
use Rattle.signature.proofs.Views.{types_are, a_func}
use Rattle.signature.proofs.lookup.Signature.func_content.Goals as goal

pub content_at-requires : goal.content_at-requires
content_at-requires c =
    let h = a_func _ _ _ c.self.view_is c.requires in
    record {
      lt_index_size = omega (arith, c.self.invariant.funcs.few, h, c.from.ensures);
      sits = rw c.from.ensures (c.self.invariant.funcs.within _ h);
    }

pub returns-clause-value : goal.returns-clause-value
returns-clause-value c =
    let h = a_func _ _ _ c.self.view_is c.requires in
    rw (← c.self.view_is, c.content_at.ensures.value, c.from.ensures) (sym (func_at c.self.invariant _ h))

pub invariant_of-result : goal.invariant_of-result
invariant_of-result c =
    let h = a_func _ _ _ c.self.view_is c.requires in
    record { shaped = rw (c.content_at.ensures.value, c.from.ensures) (func_sound c.self.invariant _ h).columned }

pub returns-clause-all_named : goal.returns-clause-all_named
returns-clause-all_named c =
    let h = a_func _ _ _ c.self.view_is c.requires in
    rw (types_are _ _ _ c.self.view_is, c.content_at.ensures.value, c.from.ensures) (func_sound c.self.invariant _ h).all_named

pub returns-clause-has_result : goal.returns-clause-has_result
returns-clause-has_result c =
    let h = a_func _ _ _ c.self.view_is c.requires in
    rw (c.content_at.ensures.value, c.from.ensures) (result_counted (func_sound c.self.invariant _ h))
