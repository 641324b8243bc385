-- The frames of the code as those of the definitions, and their encodings.
use Rattle.std.specs.Prelude.{ℕ, List, map}
use Rattle.wasm_encoder_custom.specs.CoreDumpStacks.{DumpedValue, MissingValue, I32Value, I64Value, F32Value, F64Value, DumpedFrame, DumpedStack, dumped_value_encoding, dumped_frame_encoding, dumped_stack_encoding}
use Rattle.wasm_encoder_custom.specs.KeptDumps.{dumped_name}
use Rattle.wasm_encoder_custom.specs.declared.core_dump_stack.CoreDumpValue.{CoreDumpValue}
use Rattle.wasm_encoder_custom.specs.declared.core_dump_stack.CoreDumpValue.TheVariants as values
use Rattle.wasm_encoder_custom.specs.declared.core_dump_stack.KeptFrame.{KeptFrame}
use Rattle.wasm_encoder_custom.specs.declared.core_dump_stack.KeptStack.{KeptStack}

abbrev pub dumped_value : CoreDumpValue → DumpedValue
dumped_value values.Missing = MissingValue
dumped_value (values.I32 value) = I32Value value
dumped_value (values.I64 value) = I64Value value
dumped_value (values.F32 value) = F32Value value.bits
dumped_value (values.F64 value) = F64Value value.bits

abbrev pub dumped_frame : KeptFrame → DumpedFrame
dumped_frame it = record {
  instance_index = it.instance_index;
  function_index = it.function_index;
  code_offset = it.code_offset;
  locals = map dumped_value it.locals.items;
  stack = map dumped_value it.stack.items;
}

abbrev pub dumped_stack : KeptStack → DumpedStack
dumped_stack it = record { name = dumped_name it.thread; frames = map dumped_frame it.frames }

unfoldable pub dumped_value_bytes : CoreDumpValue → List ℕ
dumped_value_bytes it = dumped_value_encoding (dumped_value it)

unfoldable pub dumped_frame_bytes : KeptFrame → List ℕ
dumped_frame_bytes it = dumped_frame_encoding (dumped_frame it)

unfoldable pub dumped_stack_bytes : KeptStack → List ℕ
dumped_stack_bytes it = dumped_stack_encoding (dumped_stack it)
