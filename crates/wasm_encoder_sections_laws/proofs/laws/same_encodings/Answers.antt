use Rattle.wasm_core_read.proofs.PartForms.{reads_table, reads_global, reads_element, reads_data}
use Rattle.wasm_core_read.specs.PartReading.{table_at, global_at, element_at, data_at}
use Rattle.wasm_encoder_sections_laws.proofs.SameEncodings.{encodings}
use Rattle.wasm_encoder_sections_laws.proofs.laws.same_encodings.Goals as goal
use Rattle.wasm_spec.specs.ModuleParts.{IsTable, IsGlobal, IsElementSegment, IsDataSegment}

pub returns : goal.returns
returns c = record {
  tables = encodings IsTable table_at reads_table;
  globals = encodings IsGlobal global_at reads_global;
  elements = encodings IsElementSegment element_at reads_element;
  segments = encodings IsDataSegment data_at reads_data;
}
