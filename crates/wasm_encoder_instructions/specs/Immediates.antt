-- Immediates of the code as those of operators, and their encodings.
use Rattle.std.specs.Prelude.{ℕ, List}
use Rattle.wasm_bodies.specs.Operators as spec
use Rattle.wasm_core_types.specs.CoreTypes.{val_type}
use Rattle.wasm_encoder_instructions.specs.OperatorEncodings.{block_encoding, memory_argument_encoding}
use Rattle.wasm_encoder_instructions.specs.declared.block_type.BlockType.{BlockType}
use Rattle.wasm_encoder_instructions.specs.declared.block_type.BlockType.TheVariants as blocks
use Rattle.wasm_encoder_instructions.specs.declared.mem_arg.MemArg.{MemArg}

abbrev pub block_type : BlockType → spec.BlockType ℕ
block_type blocks.Empty = spec.Empty
block_type (blocks.Result type) = spec.Value (val_type type)
block_type (blocks.FunctionType index) = spec.Indexed index

unfoldable pub block_type_encoding : BlockType → List ℕ
block_type_encoding type = block_encoding (block_type type)

abbrev pub memory_argument : MemArg → spec.MemoryArgument
memory_argument argument = record { exponent = argument.align; memory = argument.memory_index; offset = argument.offset }

unfoldable pub mem_arg_encoding : MemArg → List ℕ
mem_arg_encoding argument = memory_argument_encoding (memory_argument argument)
