use Rattle.wasm_validity_laws.proofs.PlainItems.{function_of_entries, function_of_sections, plain_of_entries, plain_of_sections, under_of_entries, under_of_sections}
use Rattle.wasm_validity_laws.proofs.body_laws.wanted_under.Goals as goal

pub returns : goal.returns
returns c = record {
  plain = plain_of_entries;
  wanted = under_of_entries;
  functions = function_of_entries;
  plain_in_sections = λ features sections is_below plain keep. plain_of_sections features sections keep is_below plain;
  wanted_in_sections = λ features sections is_below keep. under_of_sections features sections keep is_below;
  functions_in_sections = λ features sections index type keep e. function_of_sections features sections keep index type e;
}
