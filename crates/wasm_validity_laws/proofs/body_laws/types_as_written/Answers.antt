use Rattle.wasm_validity_laws.proofs.PlainTypes.{written_plain}
use Rattle.wasm_validity_laws.proofs.WrittenTypes.{group_rules, known_types, section_groups_are, section_written, stands, unroll_as_written, written_in_range}
use Rattle.wasm_validity_laws.proofs.body_laws.types_as_written.Goals as goal

pub returns : goal.returns
returns c = record {
  known = known_types;
  groups = section_groups_are;
  sections = section_written;
  rules = group_rules;
  count = λ features entries keep. (stands features entries keep).lengths;
  types = unroll_as_written;
  in_range = written_in_range;
  plain = written_plain;
}
