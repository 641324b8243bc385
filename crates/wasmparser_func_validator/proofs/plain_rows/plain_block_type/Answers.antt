use Rattle.std.proofs.Common.{refl}
use Rattle.wasm_core_read.specs.Reading.{byte_at}
use Rattle.wasm_core_read.specs.TypeReading.{val_type_at}
use Rattle.wasmparser_operators.specs.OperatorReading.{block_type_at, kept_type_at}
use Rattle.wasmparser_operators.specs.declared.immediates.BlockType.TheVariants as blocks
use Rattle.wasmparser_types.specs.declared.val_type.ValType.TheVariants as types
use Rattle.wasmparser_func_validator.specs.Plain.{IsPlainBlock}
use Rattle.wasmparser_func_validator.proofs.plain_rows.plain_block_type.Goals as goal

empty : IsPlainBlock 64 blocks.Empty
unfolding block_type_at byte_at
empty = (λ features rest. refl, refl, tt)

int32 : IsPlainBlock 127 (blocks.Type types.I32)
unfolding block_type_at kept_type_at val_type_at
int32 = (λ features rest. refl, refl, tt)

int64 : IsPlainBlock 126 (blocks.Type types.I64)
unfolding block_type_at kept_type_at val_type_at
int64 = (λ features rest. refl, refl, tt)

pub returns-in-64 : goal.returns-in-64
returns-in-64 c = rw c.in-64.is empty

pub returns-in-127 : goal.returns-in-127
returns-in-127 c = rw c.in-127.is int32

pub returns-in-126 : goal.returns-in-126
returns-in-126 c = rw c.in-126.is int64
