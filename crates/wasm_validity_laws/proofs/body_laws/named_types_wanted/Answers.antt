use Rattle.wasm_validity_laws.proofs.NamedWanted.{entries_named, entry_functions_named, section_functions_named, sections_named}
use Rattle.wasm_validity_laws.proofs.WrittenItems.{function_by_index}
use Rattle.wasm_validity_laws.proofs.body_laws.named_types_wanted.Goals as goal

pub returns : goal.returns
returns c = record {
  indexes = function_by_index;
  wanted = entries_named;
  functions = entry_functions_named;
  wanted_in_sections = sections_named;
  functions_in_sections = section_functions_named;
}
