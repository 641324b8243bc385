-- Reading types of tables and globals whose type indexes are packed. These functions are means of proof: each reads what the grammar reads, with its
-- indexes packed (`proofs/PackedItemLaws`).
use Rattle.std.specs.Prelude.{ℕ}
use Rattle.wasm_core_read.specs.Reading.{ReadingOf, unsigned_at, seen_at, pair_at, announced_at, after_code, no_code}
use Rattle.wasm_core_read.specs.TypeReading.{table_limits_at, limits_at, mutability_at, tag_type_at}
use Rattle.wasm_spec.specs.TypeReferences.{table_map, global_map}
use Rattle.wasm_spec.specs.Types.{TableType, GlobalType, ExternalType, FuncExternal, TableExternal, MemoryExternal, GlobalExternal, TagExternal}
use Rattle.wasmparser_readers.specs.PackedReading.{packed_index, packed_ref_from, packed_val_at}
use Rattle.wasmparser_types.specs.Index.{Index, Module}

-- a table's type after its first byte
abbrev pub packed_table_from : ℕ → ReadingOf (TableType Index)
packed_table_from code = seen_at (λ x. record { element_type = x.0; limits = x.1 }) (pair_at (packed_ref_from code) table_limits_at)

unfoldable pub packed_table_at : ReadingOf (TableType Index)
packed_table_at = announced_at packed_table_from

unfoldable pub packed_global_at : ReadingOf (GlobalType Index)
packed_global_at = seen_at (λ x. record { value_type = x.0; mutable = x.1 }) (pair_at packed_val_at mutability_at)

-- the index of a function type isn't packed
abbrev pub packed_external_from : ℕ → ReadingOf (ExternalType Index)
packed_external_from = after_code 0x00 (seen_at (λ function. FuncExternal (Module function)) (unsigned_at 32)) (after_code 0x01 (seen_at (λ type. TableExternal type) packed_table_at)
    (after_code 0x02 (seen_at (λ type. MemoryExternal type) limits_at) (after_code 0x03 (seen_at (λ type. GlobalExternal type) packed_global_at)
    (after_code 0x04 (seen_at (λ function. TagExternal (Module function)) tag_type_at) no_code))))

unfoldable pub packed_external_at : ReadingOf (ExternalType Index)
packed_external_at = announced_at packed_external_from

abbrev pub packed_external : ExternalType ℕ → ExternalType Index
packed_external (FuncExternal function) = FuncExternal (Module function)
packed_external (TableExternal type) = TableExternal (table_map packed_index type)
packed_external (MemoryExternal type) = MemoryExternal type
packed_external (GlobalExternal type) = GlobalExternal (global_map packed_index type)
packed_external (TagExternal function) = TagExternal (Module function)
