-- Reading types from the front of a list of bytes: means of proof, which the laws tie to the grammar.
use Rattle.std.specs.Prelude.{ℕ, zero, suc, ◌/◌, ◌%◌, ◌||◌, ℤ, pos, negsuc, Bool, true, false, List, [], ◌∷◌, Option, Some, None, is_some, nat_lt, ◌==◌, if◌then◌else◌}
use Rattle.wasm_spec.specs.TypeGrammar.{heap_code}
use Rattle.wasm_spec.specs.Types.{AbstractHeapType, HeapType, Abstract, Concrete, RefType, ValType, I32, I64, F32, F64, V128, Ref, StorageType, I8, I16, Val, FieldType, FuncType, CompositeType, FuncComposite, StructComposite, ArrayComposite, ContComposite, SubType, RecGroup, Single, Group, Limits, TableType, GlobalType, ExternalType, FuncExternal, TableExternal, MemoryExternal, GlobalExternal, TagExternal, ExternalKind, FuncKind, TableKind, MemoryKind, GlobalKind, TagKind}
use Rattle.wasm_spec.specs.Types as types
use Rattle.wasm_core_read.specs.Reading.{◌>>=◌, ReadingOf, unsigned_at, signed_at, seen_at, tested_at, pair_at, optional_at, announced_at, after_code, bare_code, no_code}

-- so many items
unfoldable pub items_at : {A : Type 0} → ReadingOf A → ℕ → ReadingOf (List A)
items_at item_at zero bytes = Some ([], bytes)
items_at item_at (suc n) bytes = item_at bytes >>= λ first. items_at item_at n first.1 >>= λ others. Some (first.0 ∷ others.0, others.1)

-- the number of items, and the items
unfoldable pub list_at : {A : Type 0} → ReadingOf A → ReadingOf (List A)
list_at item_at bytes = unsigned_at 32 bytes >>= λ n. items_at item_at n.0 n.1

-- the first entry of a table for a key
abbrev pub look_up : {A : Type 0} → List (ℕ × A) → ℕ → Option A
look_up [] key = None
look_up ((code, x) ∷ others) key = if key == code then Some x else look_up others key

-- ---- heap, reference and value types

abbrev pub coded : AbstractHeapType → ℕ × AbstractHeapType
coded heap = (heap_code heap, heap)

-- the abstract heap types beside their bytes
abbrev pub heap_codes : List (ℕ × AbstractHeapType)
heap_codes = coded types.NoCont ∷ coded types.NoExn ∷ coded types.NoFunc ∷ coded types.NoExtern ∷ coded types.None ∷ coded types.Func ∷ coded types.Extern
    ∷ coded types.Any ∷ coded types.Eq ∷ coded types.I31 ∷ coded types.Struct ∷ coded types.Array ∷ coded types.Exn ∷ coded types.Cont ∷ []

-- the index that a signed number is, where it isn't negative
abbrev pub index_of : ℤ → Option ℕ
index_of (pos n) = Some n
index_of (negsuc n) = None

unfoldable pub heap_index_at : ReadingOf ℕ
heap_index_at bytes = signed_at 33 bytes >>= λ z. index_of z.0 >>= λ index. Some (index, z.1)

-- the heap type that a byte is, or else an index
abbrev pub heap_with : Option AbstractHeapType → List ℕ → ReadingOf (HeapType ℕ)
heap_with (Some heap) bytes rest = Some (Abstract heap, rest)
heap_with None bytes rest = seen_at (λ index. Concrete index) heap_index_at bytes

unfoldable pub heap_type_at : ReadingOf (HeapType ℕ)
heap_type_at [] = None
heap_type_at (b ∷ rest) = heap_with (look_up heap_codes b) (b ∷ rest) rest

-- the nullable reference to an abstract heap type, beside its byte
abbrev pub shorthand : AbstractHeapType → ℕ × ValType ℕ
shorthand heap = (heap_code heap, Ref true (Abstract heap))

-- the value types that are a byte, beside it
abbrev pub val_type_codes : List (ℕ × ValType ℕ)
val_type_codes = (0x7f, I32) ∷ (0x7e, I64) ∷ (0x7d, F32) ∷ (0x7c, F64) ∷ (0x7b, V128) ∷ shorthand types.NoCont ∷ shorthand types.NoExn
    ∷ shorthand types.NoFunc ∷ shorthand types.NoExtern ∷ shorthand types.None ∷ shorthand types.Func ∷ shorthand types.Extern
    ∷ shorthand types.Any ∷ shorthand types.Eq ∷ shorthand types.I31 ∷ shorthand types.Struct ∷ shorthand types.Array
    ∷ shorthand types.Exn ∷ shorthand types.Cont ∷ []

-- a value type that is a byte
abbrev pub short_type : ℕ → ReadingOf (ValType ℕ)
short_type code rest = look_up val_type_codes code >>= λ type. Some (type, rest)

-- a value type after its first byte
abbrev pub val_type_from : ℕ → ReadingOf (ValType ℕ)
val_type_from = after_code 0x63 (seen_at (λ heap. Ref true heap) heap_type_at) (after_code 0x64 (seen_at (λ heap. Ref false heap) heap_type_at) short_type)

unfoldable pub val_type_at : ReadingOf (ValType ℕ)
val_type_at = announced_at val_type_from

-- the reference type that a value type is, if it is one
abbrev pub reference_of : ValType ℕ → Option (RefType ℕ)
reference_of (Ref nullable heap) = Some (record { nullable = nullable; heap_type = heap })
reference_of _ = None

-- a reference type after its first byte
abbrev pub ref_type_from : ℕ → ReadingOf (RefType ℕ)
ref_type_from code rest = val_type_from code rest >>= λ type. reference_of type.0 >>= λ reference. Some (reference, type.1)

unfoldable pub ref_type_at : ReadingOf (RefType ℕ)
ref_type_at = announced_at ref_type_from

-- ---- composite and recursive types

unfoldable pub storage_type_at : ReadingOf (StorageType ℕ)
storage_type_at = announced_at (bare_code 0x78 I8 (bare_code 0x77 I16 (λ code. seen_at (λ type. Val type) (val_type_from code))))

unfoldable pub mutability_at : ReadingOf Bool
mutability_at = announced_at (bare_code 0x00 false (bare_code 0x01 true no_code))

unfoldable pub field_type_at : ReadingOf (FieldType ℕ)
field_type_at = seen_at (λ x. record { element_type = x.0; mutable = x.1 }) (pair_at storage_type_at mutability_at)

-- the parameters and the results
unfoldable pub signature_at : ReadingOf (FuncType ℕ)
signature_at = seen_at (λ x. record { params = x.0; results = x.1 }) (pair_at (list_at val_type_at) (list_at val_type_at))

unfoldable pub func_type_at : ReadingOf (FuncType ℕ)
func_type_at = announced_at (after_code 0x60 signature_at no_code)

-- a composite type after its code
abbrev pub composite_from : ℕ → ReadingOf (CompositeType ℕ)
composite_from = after_code 0x60 (seen_at (λ type. FuncComposite type) signature_at) (after_code 0x5f (seen_at (λ fields. StructComposite fields) (list_at field_type_at))
    (after_code 0x5e (seen_at (λ field. ArrayComposite field) field_type_at) (after_code 0x5d (seen_at (λ function. ContComposite function) heap_index_at) no_code)))

unfoldable pub composite_type_at : ReadingOf (CompositeType ℕ)
composite_type_at = announced_at composite_from

-- supertypes, and a composite type
abbrev pub below_at : Bool → ReadingOf (SubType ℕ)
below_at final = seen_at (λ x. record { is_final = final; supertypes = x.0; composite_type = x.1 }) (pair_at (list_at (unsigned_at 32)) composite_type_at)

-- the final sub type without supertypes
abbrev pub final_type : CompositeType ℕ → SubType ℕ
final_type type = record { is_final = true; supertypes = []; composite_type = type }

-- a sub type after its first byte
abbrev pub sub_from : ℕ → ReadingOf (SubType ℕ)
sub_from = after_code 0x50 (below_at false) (after_code 0x4f (below_at true) (λ code. seen_at final_type (composite_from code)))

unfoldable pub sub_type_at : ReadingOf (SubType ℕ)
sub_type_at = announced_at sub_from

unfoldable pub rec_group_at : ReadingOf (RecGroup ℕ)
rec_group_at = announced_at (after_code 0x4e (seen_at (λ types. Group types) (list_at sub_type_at)) (λ code. seen_at (λ type. Single type) (sub_from code)))

-- ---- limits, and what is imported

-- whether a bit of the flags is set
abbrev pub has_bit : ℕ → ℕ → Bool
has_bit unit flags = flags / unit % 2 == 1

-- the bounds and the page size that the flags announce
abbrev pub limits_with : ℕ → ReadingOf Limits
limits_with flags =
    seen_at (λ x. record { minimum = x.0; maximum = x.1.0; shared = has_bit 2 flags; is_64 = has_bit 4 flags; page_size_log2 = x.1.1 })
    (pair_at (unsigned_at 64) (pair_at (optional_at (has_bit 1 flags) (unsigned_at 64)) (optional_at (has_bit 8 flags) (unsigned_at 32))))

unfoldable pub limits_at : ReadingOf Limits
limits_at = announced_at (λ flags rest. if nat_lt flags 16 then limits_with flags rest else None)

-- limits of a table: neither shared nor with a page size
abbrev pub is_of_table : Limits → Bool
is_of_table limits = if limits.shared || is_some limits.page_size_log2 then false else true

unfoldable pub table_limits_at : ReadingOf Limits
table_limits_at = tested_at is_of_table limits_at

-- a table's type after its first byte
abbrev pub table_type_from : ℕ → ReadingOf (TableType ℕ)
table_type_from code = seen_at (λ x. record { element_type = x.0; limits = x.1 }) (pair_at (ref_type_from code) table_limits_at)

unfoldable pub table_type_at : ReadingOf (TableType ℕ)
table_type_at = announced_at table_type_from

unfoldable pub global_type_at : ReadingOf (GlobalType ℕ)
global_type_at = seen_at (λ x. record { value_type = x.0; mutable = x.1 }) (pair_at val_type_at mutability_at)

unfoldable pub tag_type_at : ReadingOf ℕ
tag_type_at = announced_at (after_code 0x00 (unsigned_at 32) no_code)

unfoldable pub external_kind_at : ReadingOf ExternalKind
external_kind_at = announced_at (bare_code 0x00 FuncKind (bare_code 0x01 TableKind (bare_code 0x02 MemoryKind (bare_code 0x03 GlobalKind (bare_code 0x04 TagKind no_code)))))

unfoldable pub external_type_at : ReadingOf (ExternalType ℕ)
external_type_at = announced_at (after_code 0x00 (seen_at (λ function. FuncExternal function) (unsigned_at 32)) (after_code 0x01 (seen_at (λ type. TableExternal type) table_type_at)
    (after_code 0x02 (seen_at (λ type. MemoryExternal type) limits_at) (after_code 0x03 (seen_at (λ type. GlobalExternal type) global_type_at)
    (after_code 0x04 (seen_at (λ function. TagExternal function) tag_type_at) no_code)))))
