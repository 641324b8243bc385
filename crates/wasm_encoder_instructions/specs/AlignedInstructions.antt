-- What an instruction of the code has to be besides, so that its operator can be stated: types of the code hold numbers of their widths.
use Rattle.std.specs.List.{AllByRecursion}
use Rattle.std.specs.Prelude.{◌<◌, ◌^◌, ⊤, map}
use Rattle.wasm_core_types.specs.CoreTypes.{val_type}
use Rattle.wasm_encoder_instructions.specs.declared.instruction.Instruction.{Instruction}
use Rattle.wasm_encoder_instructions.specs.declared.instruction.Instruction.TheVariants.{I32Load, I64Load, F32Load, F64Load, I32Load8S, I32Load8U, I32Load16S, I32Load16U, I64Load8S, I64Load8U, I64Load16S, I64Load16U, I64Load32S, I64Load32U, I32Store, I64Store, F32Store, F64Store, I32Store8, I32Store16, I64Store8, I64Store16, I64Store32, TypedSelectMulti}
use Rattle.wasm_spec.specs.SmallIndexes.{IsSmallValue}

-- The alignment is below 2 ^ 6, as is that of every access that is valid; and the indexes in a list of types are below 2 ^ 32.
abbrev pub IsAligned : Instruction → Type 0
IsAligned (I32Load memarg) = memarg.align < 2 ^ 6
IsAligned (I64Load memarg) = memarg.align < 2 ^ 6
IsAligned (F32Load memarg) = memarg.align < 2 ^ 6
IsAligned (F64Load memarg) = memarg.align < 2 ^ 6
IsAligned (I32Load8S memarg) = memarg.align < 2 ^ 6
IsAligned (I32Load8U memarg) = memarg.align < 2 ^ 6
IsAligned (I32Load16S memarg) = memarg.align < 2 ^ 6
IsAligned (I32Load16U memarg) = memarg.align < 2 ^ 6
IsAligned (I64Load8S memarg) = memarg.align < 2 ^ 6
IsAligned (I64Load8U memarg) = memarg.align < 2 ^ 6
IsAligned (I64Load16S memarg) = memarg.align < 2 ^ 6
IsAligned (I64Load16U memarg) = memarg.align < 2 ^ 6
IsAligned (I64Load32S memarg) = memarg.align < 2 ^ 6
IsAligned (I64Load32U memarg) = memarg.align < 2 ^ 6
IsAligned (I32Store memarg) = memarg.align < 2 ^ 6
IsAligned (I64Store memarg) = memarg.align < 2 ^ 6
IsAligned (F32Store memarg) = memarg.align < 2 ^ 6
IsAligned (F64Store memarg) = memarg.align < 2 ^ 6
IsAligned (I32Store8 memarg) = memarg.align < 2 ^ 6
IsAligned (I32Store16 memarg) = memarg.align < 2 ^ 6
IsAligned (I64Store8 memarg) = memarg.align < 2 ^ 6
IsAligned (I64Store16 memarg) = memarg.align < 2 ^ 6
IsAligned (I64Store32 memarg) = memarg.align < 2 ^ 6
IsAligned (TypedSelectMulti types) = AllByRecursion IsSmallValue (map val_type types.now)
IsAligned _ = ⊤
