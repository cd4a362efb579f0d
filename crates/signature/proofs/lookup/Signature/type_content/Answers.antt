use Rattle.std.proofs.Common.{arith, sym}
use Rattle.signature.proofs.Symbols.{type_at, type_names}
use Rattle.signature.proofs.Views.{types_are, a_type}
use Rattle.signature.proofs.lookup.Signature.type_content.Goals as goal

pub content_at-requires : goal.content_at-requires
content_at-requires c =
    let h = a_type _ _ _ c.self.view_is c.requires in
    record {
      lt_index_size = omega (arith, c.self.invariant.types.few, h, c.from.ensures);
      sits = rw c.from.ensures (c.self.invariant.types.within _ h);
    }

pub returns-clause-value : goal.returns-clause-value
returns-clause-value c =
    let h = a_type _ _ _ c.self.view_is c.requires in
    rw (← c.self.view_is, c.content_at.ensures.value, c.from.ensures) (sym (type_at c.self.invariant _ h))

pub returns-clause-all_named : goal.returns-clause-all_named
returns-clause-all_named c =
    let h = a_type _ _ _ c.self.view_is c.requires in
    rw (types_are _ _ _ c.self.view_is, c.content_at.ensures.value, c.from.ensures) (type_names c.self.invariant _ h)
