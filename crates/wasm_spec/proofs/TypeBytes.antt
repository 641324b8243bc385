-- The encodings of types are bytes.
use Rattle.std.proofs.Common.{◌<◌, ◌≤◌, ℕ, Bool, if◌then◌else◌, is_some, true, false, inl, inr, arith}
use Rattle.wasm_spec.specs.Bytes.{IsU32, IsU64, IsPair, IsOptional, IsList}
use Rattle.wasm_spec.specs.TypeGrammar.{heap_code, IsHeapIndex, IsHeapType, IsReference, IsRefType, IsValType, IsResultType, IsStorageType, IsMutability, IsFieldType, IsCompositeType, sub_code, IsSubType, IsRecGroup, limits_flags, IsLimits, IsTableLimits, IsTableType, IsGlobalType, IsTagType, kind_code, IsExternalKind, IsOfKind, IsExternalType}
use Rattle.wasm_spec.specs.Types.{AbstractHeapType, Func, Extern, Any, None, NoExtern, NoFunc, Eq, Struct, Array, I31, Exn, NoExn, Cont, NoCont, Abstract, Concrete, I32, I64, F32, F64, V128, Ref, I8, I16, Val, FuncComposite, StructComposite, ArrayComposite, ContComposite, Single, Group, Limits, FuncExternal, TableExternal, MemoryExternal, GlobalExternal, TagExternal, ExternalKind, FuncKind, TableKind, MemoryKind, GlobalKind, TagKind, kind_of}
use Rattle.wasm_spec.proofs.EncodingBytes.{HasBytes, one_byte, of_u32, of_u64, of_s33, of_pair, of_marked, of_optional, of_list}

heap_byte : (heap : AbstractHeapType) → heap_code heap < 256
heap_byte NoCont = omega arith
heap_byte NoExn = omega arith
heap_byte NoFunc = omega arith
heap_byte NoExtern = omega arith
heap_byte None = omega arith
heap_byte Func = omega arith
heap_byte Extern = omega arith
heap_byte Any = omega arith
heap_byte Eq = omega arith
heap_byte I31 = omega arith
heap_byte Struct = omega arith
heap_byte Array = omega arith
heap_byte Exn = omega arith
heap_byte Cont = omega arith

of_heap_index : HasBytes IsHeapIndex
of_heap_index bytes index h = of_s33 bytes _ h

pub of_heap_type : HasBytes IsHeapType
of_heap_type bytes (Abstract heap) h = one_byte bytes (heap_code heap) h (heap_byte heap)
of_heap_type bytes (Concrete index) h = of_heap_index bytes index h

of_reference : (nullable : Bool) → HasBytes (IsReference nullable)
of_reference false bytes heap h = of_marked 0x64 IsHeapType (omega arith) of_heap_type bytes heap h
of_reference true bytes heap (inl h) = of_marked 0x63 IsHeapType (omega arith) of_heap_type bytes heap h
of_reference true bytes (Abstract heap) (inr h) = one_byte bytes (heap_code heap) h (heap_byte heap)
of_reference true bytes (Concrete index) (inr h) = absurd h

pub of_ref_type : HasBytes IsRefType
of_ref_type bytes type h = of_reference type.nullable bytes type.heap_type h

pub of_val_type : HasBytes IsValType
of_val_type bytes I32 h = one_byte bytes 0x7f h (omega arith)
of_val_type bytes I64 h = one_byte bytes 0x7e h (omega arith)
of_val_type bytes F32 h = one_byte bytes 0x7d h (omega arith)
of_val_type bytes F64 h = one_byte bytes 0x7c h (omega arith)
of_val_type bytes V128 h = one_byte bytes 0x7b h (omega arith)
of_val_type bytes (Ref nullable heap) h = of_reference nullable bytes heap h

of_result_type : HasBytes IsResultType
of_result_type bytes types h = of_list IsValType of_val_type bytes types h

of_storage : HasBytes IsStorageType
of_storage bytes I8 h = one_byte bytes 0x78 h (omega arith)
of_storage bytes I16 h = one_byte bytes 0x77 h (omega arith)
of_storage bytes (Val type) h = of_val_type bytes type h

of_mutability : HasBytes IsMutability
of_mutability bytes false h = one_byte bytes 0x00 h (omega arith)
of_mutability bytes true h = one_byte bytes 0x01 h (omega arith)

of_field : HasBytes IsFieldType
of_field bytes field h = of_pair IsStorageType IsMutability of_storage of_mutability bytes _ h

of_composite : HasBytes IsCompositeType
of_composite bytes (FuncComposite type) h =
    of_marked 0x60 (IsPair IsResultType IsResultType) (omega arith) (of_pair IsResultType IsResultType of_result_type of_result_type) bytes _ h
of_composite bytes (StructComposite fields) h = of_marked 0x5f (IsList IsFieldType) (omega arith) (of_list IsFieldType of_field) bytes fields h
of_composite bytes (ArrayComposite field) h = of_marked 0x5e IsFieldType (omega arith) of_field bytes field h
of_composite bytes (ContComposite function) h = of_marked 0x5d IsHeapIndex (omega arith) of_heap_index bytes function h

sub_byte : (is_final : Bool) → sub_code is_final < 256
sub_byte true = omega arith
sub_byte false = omega arith

of_sub : HasBytes IsSubType
of_sub bytes type (inl h) =
    of_marked (sub_code type.is_final) (IsPair (IsList IsU32) IsCompositeType) (sub_byte type.is_final)
    (of_pair (IsList IsU32) IsCompositeType (of_list IsU32 of_u32) of_composite) bytes _ h
of_sub bytes type (inr h) = of_composite bytes type.composite_type h.2

pub of_group : HasBytes IsRecGroup
of_group bytes (Single type) h = of_sub bytes type h
of_group bytes (Group types) h = of_marked 0x4e (IsList IsSubType) (omega arith) (of_list IsSubType of_sub) bytes types h

-- ---- limits, and what is imported

bit : (b : Bool) (n : ℕ) → (if b then n else 0) ≤ n
bit true n = omega arith
bit false n = omega arith

pub small_flags : (limits : Limits) → limits_flags limits < 16
small_flags limits = omega (arith, bit (is_some limits.maximum) 0x01, bit limits.shared 0x02, bit limits.is_64 0x04, bit (is_some limits.page_size_log2) 0x08)

flags_byte : (limits : Limits) → limits_flags limits < 256
flags_byte limits = omega (arith, small_flags limits)

pub of_limits : HasBytes IsLimits
of_limits bytes limits h =
    of_marked (limits_flags limits) (IsPair IsU64 (IsPair (IsOptional IsU64) (IsOptional IsU32))) (flags_byte limits)
    (of_pair IsU64 (IsPair (IsOptional IsU64) (IsOptional IsU32)) of_u64
    (of_pair (IsOptional IsU64) (IsOptional IsU32) (of_optional IsU64 of_u64) (of_optional IsU32 of_u32))) bytes _ h

of_table_limits : HasBytes IsTableLimits
of_table_limits bytes limits h = of_limits bytes limits h.0

pub of_table_type : HasBytes IsTableType
of_table_type bytes type h = of_pair IsRefType IsTableLimits of_ref_type of_table_limits bytes _ h

pub of_global_type : HasBytes IsGlobalType
of_global_type bytes type h = of_pair IsValType IsMutability of_val_type of_mutability bytes _ h

pub of_tag_type : HasBytes IsTagType
of_tag_type bytes function h = of_marked 0x00 IsU32 (omega arith) of_u32 bytes function h

kind_byte : (kind : ExternalKind) → kind_code kind < 256
kind_byte FuncKind = omega arith
kind_byte TableKind = omega arith
kind_byte MemoryKind = omega arith
kind_byte GlobalKind = omega arith
kind_byte TagKind = omega arith

pub of_kind : HasBytes IsExternalKind
of_kind bytes kind h = one_byte bytes (kind_code kind) h (kind_byte kind)

of_of_kind : HasBytes IsOfKind
of_of_kind bytes (FuncExternal function) h = of_u32 bytes function h
of_of_kind bytes (TableExternal type) h = of_table_type bytes type h
of_of_kind bytes (MemoryExternal type) h = of_limits bytes type h
of_of_kind bytes (GlobalExternal type) h = of_global_type bytes type h
of_of_kind bytes (TagExternal function) h = of_tag_type bytes function h

pub of_external : HasBytes IsExternalType
of_external bytes type h = of_marked (kind_code (kind_of type)) IsOfKind (kind_byte (kind_of type)) of_of_kind bytes type h
