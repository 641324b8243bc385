use Rattle.std.proofs.Common.{refl}
use Rattle.wasm_encoder_instructions.proofs.examples.operators.Goals as goal
use Rattle.wasm_encoder_instructions.specs.OperatorEncodings.{alignment_encoding, block_encoding, code_encoding, indexes_encoding, labels_encoding, memory_argument_encoding, operator_encoding}
use Rattle.wasm_encoder_instructions.specs.ScalarRows.{row_of}
use Rattle.wasm_spec.specs.Shortest.{list_encoding, magnitude_encoding, signed_bytes, unsigned_bytes, unsigned_encoding}
use Rattle.wasm_spec.specs.TypeEncodings.{heap_encoding, val_encoding}

pub returns : goal.returns
unfolding alignment_encoding block_encoding code_encoding indexes_encoding labels_encoding memory_argument_encoding operator_encoding row_of list_encoding magnitude_encoding signed_bytes unsigned_bytes unsigned_encoding heap_encoding val_encoding
returns c = record {
  unreachable = refl;
  block = refl;
  block_of_a_value = refl;
  block_of_a_type = refl;
  table_of_labels = refl;
  call = refl;
  type_first = refl;
  choice = refl;
  negative_number = refl;
  number = refl;
  float = refl;
  double = refl;
  load = refl;
  load_from_another = refl;
  store = refl;
  row = refl;
  prefixed_row = refl;
  null_of_a_kind = refl;
  null_of_a_type = refl;
  segment_first = refl;
  written_memory_first = refl;
  count_last = refl;
  vector = refl;
}
