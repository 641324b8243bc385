-- The words that stand for types in the rows of tests.
use Rattle.std.specs.Prelude.{ℕ, List, Option, Some, None, codes}
use Rattle.wasm_core_types.specs.declared.types.AbstractHeapType.{AbstractHeapType}
use Rattle.wasm_core_types.specs.declared.types.AbstractHeapType.TheVariants as heaps
use Rattle.wasm_core_types.specs.declared.types.StorageType.{StorageType}
use Rattle.wasm_core_types.specs.declared.types.StorageType.TheVariants.{I8, I16, Val}
use Rattle.wasm_core_types.specs.declared.types.ValType.{ValType}
use Rattle.wasm_core_types.specs.declared.types.ValType.TheVariants.{I32, I64, F32, F64, V128, Ref}

abbrev pub heap_word : AbstractHeapType → List ℕ
heap_word heaps.Func = codes "func"
heap_word heaps.Extern = codes "extern"
heap_word heaps.Any = codes "any"
heap_word heaps.None = codes "none"
heap_word heaps.NoExtern = codes "noextern"
heap_word heaps.NoFunc = codes "nofunc"
heap_word heaps.Eq = codes "eq"
heap_word heaps.Struct = codes "struct"
heap_word heaps.Array = codes "array"
heap_word heaps.I31 = codes "i31"
heap_word heaps.Exn = codes "exn"
heap_word heaps.NoExn = codes "noexn"
heap_word heaps.Cont = codes "cont"
heap_word heaps.NoCont = codes "nocont"

-- the word of a number or vector type
abbrev pub number_word : ValType → Option (List ℕ)
number_word I32 = Some (codes "i32")
number_word I64 = Some (codes "i64")
number_word F32 = Some (codes "f32")
number_word F64 = Some (codes "f64")
number_word V128 = Some (codes "v128")
number_word (Ref type) = None

-- the word of a packed type
abbrev pub packed_word : StorageType → Option (List ℕ)
packed_word I8 = Some (codes "i8")
packed_word I16 = Some (codes "i16")
packed_word (Val type) = None
