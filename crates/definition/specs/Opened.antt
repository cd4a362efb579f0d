-- Every definition that is computed with, under one name: `unfolding opened` opens them all.
use Rattle.definition.specs.Base.{keep, each, joined, any, all, first_of, last_of, but_last, has, span, place_from, same_list, less, lowest}
use Rattle.definition.specs.Records.{
  numbers,
  number_at,
  cut,
  fields_of,
  follows,
  placed,
  with_letter,
  up_to,
  blocks,
  fault_from,
  fault_among,
  bad_name,
  read_part,
}
use Rattle.definition.specs.Signature.{
  symbol_of,
  type_fault,
  symbol_fault,
  signature_fault,
  signature_of,
  signature_part,
  read_signature,
  arity,
  symbol_count,
  parent_model,
}
use Rattle.definition.specs.Rule.{
  element_of,
  row_of,
  name_of,
  pairs_of,
  map_of,
  kind_of,
  auxiliary_of,
  named_elements,
  head_fault,
  structure_fault,
  element_fault,
  row_key,
  row_fault,
  name_fault,
  keys_ascend,
  map_fault,
  kind_fault,
  auxiliary_fault,
  body_fault,
  structures_fault,
  named_in,
  rule_fault,
  structure_of,
  rule_of,
  rule_part,
  read_rule,
}
use Rattle.definition.specs.Group.{
  variable_of,
  statement_of,
  title_fault,
  variable_fault,
  flat_rule_fault,
  bad_columns,
  statement_fault,
  flat_rules_fault,
  group_fault,
  flat_rule_of,
  group_of,
  group_part,
  read_group,
}
use Rattle.definition.specs.Names.{digits_to, numbers_of, variable_at, fiber, carried_key, carried, numbered, base_name, new_variable, new_variables}
use Rattle.definition.specs.Rows.{
  member_row,
  row_before,
  insert_row,
  sort_rows,
  members,
  rows_of,
  last_element,
  row_statement,
  type_sets,
  image_of,
  in_image,
  image_row,
  same_row,
  new_rows,
  pairs_among,
  kernel_pairs,
  arguments,
  constrained,
}
use Rattle.definition.specs.Kinds.{
  initial_statements,
  type_in,
  kernel_variables,
  equalities,
  kernel_clashes,
  row_unmapped,
  new_elements,
  added_rows,
  constrained_member,
  free_elements,
  if_statements,
  surj_conclusion,
  yielding_row,
  domain_statement,
  domain_step,
  non_surj_step,
  if_step,
  surj_step,
  map_step,
}
use Rattle.definition.specs.Walk.{
  incoming_source,
  pairs_between,
  unmapped_auxiliary,
  unmapped_kind,
  add_pair,
  completed,
  walked_kinds,
  group_name,
  named_rules,
  side_of,
  reach,
  initial_state,
  taken_over,
  walk_map,
  walk_from,
  walk_of,
}
use Rattle.definition.specs.Writer.{
  number_bytes,
  field_bytes,
  record_bytes,
  variable_field,
  statement_field,
  flat_rule_fields,
  group_fields,
  group_bytes_of,
}
use Rattle.definition.specs.Flatten.{group_left, fitted, flatten_of}
use Rattle.definition.specs.Scope.{
  same_variable,
  same_variables,
  owners_verdict,
  conclusion_verdict,
  related,
  relation_verdict,
  premise_verdict,
  model_scope,
  output_scope,
  conclusion_scope,
  infer_scope,
  scope_of,
  conclusion_at,
  owners_at,
  owners_part,
  owners_of,
}
use Rattle.definition.specs.Desk.{printed, desk_of}

unfoldable pub opened : Unit {0}
unfolding
    keep each joined any all first_of last_of but_last has span place_from same_list less lowest
    numbers number_at cut fields_of follows placed with_letter up_to blocks fault_from fault_among bad_name read_part
    symbol_of type_fault symbol_fault signature_fault signature_of signature_part read_signature arity symbol_count parent_model
    element_of row_of name_of pairs_of map_of kind_of auxiliary_of named_elements head_fault structure_fault element_fault row_key row_fault
    name_fault keys_ascend
    map_fault kind_fault auxiliary_fault body_fault structures_fault named_in rule_fault structure_of rule_of rule_part read_rule
    variable_of statement_of title_fault variable_fault flat_rule_fault bad_columns statement_fault flat_rules_fault group_fault flat_rule_of
    group_of group_part
    read_group
    digits_to numbers_of variable_at fiber carried_key carried numbered base_name new_variable new_variables
    member_row row_before insert_row sort_rows members rows_of last_element row_statement type_sets image_of in_image image_row same_row new_rows pairs_among
    kernel_pairs arguments constrained
    initial_statements type_in kernel_variables equalities kernel_clashes row_unmapped new_elements added_rows constrained_member free_elements if_statements
    surj_conclusion yielding_row domain_statement domain_step non_surj_step if_step surj_step map_step
    incoming_source pairs_between unmapped_auxiliary unmapped_kind add_pair completed walked_kinds group_name named_rules side_of reach initial_state taken_over
    walk_map walk_from walk_of
    number_bytes field_bytes record_bytes variable_field statement_field flat_rule_fields group_fields group_bytes_of
    group_left fitted flatten_of
    same_variable same_variables owners_verdict conclusion_verdict related relation_verdict premise_verdict model_scope output_scope conclusion_scope
    infer_scope scope_of conclusion_at owners_at owners_part owners_of
    printed desk_of
opened = tt
