use Rattle.std.proofs.Common.{refl}
use Rattle.wasm_spec.specs.Shortest.{unsigned_bytes, unsigned_encoding, signed_bytes, magnitude_encoding, list_encoding}
use Rattle.wasm_spec.specs.TypeEncodings.{heap_encoding, ref_encoding, val_encoding, storage_encoding, field_encoding, func_encoding, composite_encoding, sub_encoding_of, group_encoding}
use Rattle.wasm_spec_examples.proofs.type_encoding_examples.type_encodings.Goals as goal

pub returns : goal.returns
unfolding unsigned_bytes unsigned_encoding signed_bytes magnitude_encoding list_encoding heap_encoding ref_encoding val_encoding storage_encoding field_encoding func_encoding composite_encoding sub_encoding_of group_encoding
returns c = record {
  no_values = refl;
  values = refl;
  references = refl;
  structure = refl;
  array = refl;
  continuation = refl;
  open_alone = refl;
  open_below = refl;
  final_below = refl;
  final_alone = refl;
  group_of_one = refl;
  group_of_two = refl;
}
