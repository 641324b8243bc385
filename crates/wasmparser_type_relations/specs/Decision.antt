-- Whether one type is below another, as a computed value, where indexes name defined types. Ids rank types by their own number; an index that stands for nothing
-- is below itself alone.
use Rattle.std.specs.Prelude.{◌==◌, Bool, false}
use Rattle.wasm_spec.specs.Subtyping.{SubTypes}
use Rattle.wasm_spec.specs.Types.{HeapType, RefType, ValType}
use Rattle.wasmparser_type_relations.specs.Ranked as ranked
use Rattle.wasmparser_type_relations.specs.Ranked.{Ranking}
use Rattle.wasmparser_types.specs.Index.{Index, Module, RecGroup, Id, number_of}

abbrev pub is_same_index : Index → Index → Bool
is_same_index (Module n) (Module m) = n == m
is_same_index (RecGroup n) (RecGroup m) = n == m
is_same_index (Id n) (Id m) = n == m
is_same_index _ _ = false

abbrev pub by_number : Ranking Index
by_number = record { is_same = is_same_index; rank = number_of }

abbrev pub is_heap_below : SubTypes Index → HeapType Index → HeapType Index → Bool
is_heap_below sub_at a b = ranked.is_heap_below by_number sub_at a b

abbrev pub is_ref_below : SubTypes Index → RefType Index → RefType Index → Bool
is_ref_below sub_at a b = ranked.is_ref_below by_number sub_at a b

abbrev pub is_val_below : SubTypes Index → ValType Index → ValType Index → Bool
is_val_below sub_at a b = ranked.is_val_below by_number sub_at a b
