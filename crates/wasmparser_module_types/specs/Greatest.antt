-- The greatest heap type above one that names types by ids.
use Rattle.std.specs.Prelude.{Option, Some, None}
use Rattle.wasm_spec.specs.Subtyping.{SubTypes}
use Rattle.wasm_spec.specs.Types.{AbstractHeapType, HeapType, Abstract}
use Rattle.wasmparser_type_relations.specs.Tops.{top_above}
use Rattle.wasmparser_types.specs.Index.{Index}

-- an abstract type, where there is one
abbrev pub abstract_or : HeapType Index → Option AbstractHeapType → HeapType Index
abstract_or type (Some heap) = Abstract heap
abstract_or type None = type

-- the greatest type above: the type itself, where an index stands for nothing
abbrev pub greatest_above : SubTypes Index → HeapType Index → HeapType Index
greatest_above sub_at type = abstract_or type (top_above sub_at type)
