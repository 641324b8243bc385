-- What is written of immediates, in parts.
use Rattle.std.proofs.Common.{◌≡◌, ℕ, List, [], ◌∷◌, ◌++◌, refl, arith, append_assoc, length-append}
use Rattle.std.proofs.lemmas.List.{append-nil}
use Rattle.wasm_bodies.specs.OperatorGrammar.{code_of}
use Rattle.wasm_bodies.specs.OperatorRows.{OperatorCode}
use Rattle.wasm_core_types.specs.CoreTypes.{heap_type, val_type}
use Rattle.wasm_core_types.specs.declared.types.HeapType.{HeapType}
use Rattle.wasm_core_types.specs.declared.types.ValType.{ValType}
pub use Rattle.wasm_core_write.proofs.TypeLists.{val_types}
use Rattle.wasm_core_write.specs.CoreEncodings.{heap_type_encoding, val_type_encoding}
use Rattle.wasm_encoder_instructions.specs.Immediates.{block_type, block_type_encoding, mem_arg_encoding, memory_argument}
use Rattle.wasm_encoder_instructions.specs.Instructions.{operator, instruction_encoding}
use Rattle.wasm_encoder_instructions.specs.OperatorEncodings.{code_encoding, block_encoding, memory_argument_encoding, indexes_encoding, labels_encoding, immediates_encoding, operator_encoding}
use Rattle.wasm_encoder_instructions.specs.declared.instruction.Instruction.{Instruction}
use Rattle.wasm_encoder_instructions.specs.declared.block_type.BlockType.{BlockType as Block}
use Rattle.wasm_encoder_instructions.specs.declared.mem_arg.MemArg.{MemArg}
use Rattle.wasm_spec.proofs.UnsignedEncodings.{unsigned_last}
use Rattle.wasm_spec.specs.Shortest.{unsigned_encoding, list_encoding}
use Rattle.wasm_spec.specs.TypeEncodings.{heap_encoding, val_encoding}

pub two_indexes : (first second : ℕ) → indexes_encoding first second ≡ unsigned_encoding first ++ unsigned_encoding second
unfolding indexes_encoding
two_indexes first second = refl

pub some_labels : (labels : List ℕ) (other : ℕ) → labels_encoding labels other ≡ list_encoding unsigned_encoding labels ++ unsigned_encoding other
unfolding labels_encoding
some_labels labels other = refl

pub block : (type : Block) → block_encoding (block_type type) ≡ block_type_encoding type
unfolding block_type_encoding
block type = refl

pub memory : (argument : MemArg) → memory_argument_encoding (memory_argument argument) ≡ mem_arg_encoding argument
unfolding mem_arg_encoding
memory argument = refl

pub heap : (type : HeapType) → heap_encoding (heap_type type) ≡ heap_type_encoding type
unfolding heap_type_encoding
heap type = refl

pub one_type : (type : ValType) → list_encoding val_encoding (val_type type ∷ []) ≡ 0x01 ∷ val_type_encoding type
unfolding list_encoding val_type_encoding
one_type type = rw (unsigned_last 1 (omega arith), append-nil) refl

pub ruleset parts = (two_indexes, some_labels, block, memory, heap, one_type, val_types, append_assoc, length-append)

-- ---- a code, and immediates

pub code_and_immediates : (instruction : Instruction) (code : OperatorCode) (immediates : List ℕ) → code ≡ code_of (operator instruction) → immediates ≡ immediates_encoding (operator instruction)
    → instruction_encoding instruction ≡ code_encoding code ++ immediates
unfolding instruction_encoding operator_encoding
code_and_immediates instruction code immediates a b = rw (a, b) refl

pub ruleset whole = (code_and_immediates, append_assoc, length-append)
