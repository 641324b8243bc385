-- Lists of values and of frames, and their encodings.
use Rattle.std.proofs.Common.{◌≡◌, ℕ, List, map, Option}
use Rattle.wasm_core_write.proofs.Items.{viewed}
use Rattle.wasm_core_write.proofs.TypeLists.{list_mapped}
use Rattle.wasm_core_write.specs.Encoding.{TellsItem}
use Rattle.wasm_spec.specs.Shortest.{list_encoding}
use Rattle.wasm_encoder_custom.specs.CoreDumpStacks.{dumped_value_encoding, dumped_frame_encoding}
use Rattle.wasm_encoder_custom.specs.KeptStacks.{dumped_value, dumped_value_bytes, dumped_frame, dumped_frame_bytes}
use Rattle.wasm_encoder_custom.specs.declared.core_dump_stack.CoreDumpValue.{CoreDumpValue}
use Rattle.wasm_encoder_custom.specs.declared.core_dump_stack.KeptFrame.{KeptFrame}

pub values : (items : List CoreDumpValue) → list_encoding dumped_value_bytes items ≡ list_encoding dumped_value_encoding (map dumped_value items)
unfolding dumped_value_bytes
values items = list_mapped dumped_value_encoding dumped_value items

pub frames : (items : List KeptFrame) → list_encoding dumped_frame_bytes items ≡ list_encoding dumped_frame_encoding (map dumped_frame items)
unfolding dumped_frame_bytes
frames items = list_mapped dumped_frame_encoding dumped_frame items

pub ruleset steps = (values, frames)

pub frame_told : (items : List KeptFrame) (i : ℕ) (told : Option ℕ) → TellsItem dumped_frame_bytes items i told → TellsItem dumped_frame_encoding (map dumped_frame items) i told
unfolding dumped_frame_bytes
frame_told items i told h = viewed dumped_frame_encoding dumped_frame items i told h
