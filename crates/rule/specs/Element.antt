-- An element that was read, as the definition's.
use Rattle.definition.specs.Rule as definition
use Rattle.rule.specs.Els.{els_in}
use Rattle.rule.specs.declared.views.Element.{Element}

abbrev pub element_from : Element → definition.Element
element_from e = record { number = e.number.0; type = e.ty.0; parents = els_in e.parents }
