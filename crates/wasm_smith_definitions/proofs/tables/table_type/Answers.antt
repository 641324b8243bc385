use Rattle.wasm_smith_definitions.proofs.OfferedLaws.{asked_since}
use Rattle.wasm_smith_definitions.proofs.tables.table_type.Goals as goal

pub returns-clause-offered : goal.returns-clause-offered
returns-clause-offered c = record {
  element = c.table_element-element_type.ensures.offered;
  is_64 = asked_since _ _ _ _ c.bool_if-table64.ensures.exact;
  bounds = rw c.most_elements-most.ensures at c.bounds_within-bounds.ensures.within;
  required = c.bounds_within-bounds.ensures.required;
}
