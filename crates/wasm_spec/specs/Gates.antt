-- Gates of types: which types a module may write under a set of features. The standard has no features: there no type is refused for its
-- form, those of continuations aside (Core Specification 3.0, Validation, "Types"). Its appendix "Change History" tells what came with which
-- proposal. The flags for floats and for all types of garbage collection belong to none.
use Rattle.std.specs.Prelude.{Bool, true, ◌&&◌, ◌||◌, length, nat_eq, nat_le}
use Rattle.std.specs.List.{list_all}
use Rattle.wasm_spec.specs.Features.{Features, has, ReferenceTypes, MultiValue, Simd, Floats, Exceptions, FunctionReferences, Gc, GcTypes, StackSwitching}
use Rattle.wasm_spec.specs.Types.{AbstractHeapType, Func, Extern, Any, None, NoExtern, NoFunc, Eq, Struct, Array, I31, Exn, NoExn, Cont, NoCont, HeapType, Abstract, Concrete, ValType, I32, I64, F32, F64, V128, Ref, StorageType, I8, I16, Val, FuncType, CompositeType, FuncComposite, StructComposite, ArrayComposite, ContComposite, SubType, RecGroup, Single, Group}

-- a reference to an abstract heap type, which may be null or not
abbrev pub is_allowed_abstract : Features → Bool → AbstractHeapType → Bool
is_allowed_abstract features nullable Func = nullable || has features FunctionReferences
is_allowed_abstract features nullable Extern = has features GcTypes && (nullable || has features FunctionReferences)
is_allowed_abstract features nullable Any = has features GcTypes && has features Gc
is_allowed_abstract features nullable None = has features GcTypes && has features Gc
is_allowed_abstract features nullable NoExtern = has features GcTypes && has features Gc
is_allowed_abstract features nullable NoFunc = has features GcTypes && has features Gc
is_allowed_abstract features nullable Eq = has features GcTypes && has features Gc
is_allowed_abstract features nullable Struct = has features GcTypes && has features Gc
is_allowed_abstract features nullable Array = has features GcTypes && has features Gc
is_allowed_abstract features nullable I31 = has features GcTypes && has features Gc
is_allowed_abstract features nullable Exn = has features Exceptions
is_allowed_abstract features nullable NoExn = has features GcTypes && has features Exceptions
is_allowed_abstract features nullable Cont = has features GcTypes && has features StackSwitching
is_allowed_abstract features nullable NoCont = has features GcTypes && has features StackSwitching

abbrev pub is_allowed_heap : {R : Type 0} → Features → Bool → HeapType R → Bool
is_allowed_heap features nullable (Abstract heap) = is_allowed_abstract features nullable heap
is_allowed_heap features nullable (Concrete index) = has features Gc || has features FunctionReferences

-- A value type. (What a table holds is asked otherwise: the nullable reference to any function is always allowed there.)
abbrev pub is_allowed : {R : Type 0} → Features → ValType R → Bool
is_allowed features I32 = true
is_allowed features I64 = true
is_allowed features F32 = has features Floats
is_allowed features F64 = has features Floats
is_allowed features V128 = has features Simd
is_allowed features (Ref nullable heap) = has features ReferenceTypes && is_allowed_heap features nullable heap

-- a function type: its parameters and results, of which there are several only with the feature for them
abbrev pub is_allowed_func : {R : Type 0} → Features → FuncType R → Bool
is_allowed_func features type =
    list_all (is_allowed features) type.params && list_all (is_allowed features) type.results
    && (nat_le (length type.results) 1 || has features MultiValue)

abbrev pub is_allowed_storage : {R : Type 0} → Features → StorageType R → Bool
is_allowed_storage features I8 = true
is_allowed_storage features I16 = true
is_allowed_storage features (Val type) = is_allowed features type

-- structures and arrays are a matter of garbage collection, continuation types one of stack switching
abbrev pub is_allowed_composite : {R : Type 0} → Features → CompositeType R → Bool
is_allowed_composite features (FuncComposite type) = is_allowed_func features type
is_allowed_composite features (StructComposite fields) =
    has features Gc && has features GcTypes && list_all (λ field. is_allowed_storage features field.element_type) fields
is_allowed_composite features (ArrayComposite field) =
    has features Gc && has features GcTypes && is_allowed_storage features field.element_type
is_allowed_composite features (ContComposite function) = has features StackSwitching && has features GcTypes

-- types that aren't final, and supertypes
abbrev pub is_allowed_sub : {R : Type 0} → Features → SubType R → Bool
is_allowed_sub features type =
    (type.is_final && nat_eq (length type.supertypes) 0 || has features Gc) && is_allowed_composite features type.composite_type

-- a group that is written out is a matter of garbage collection, also where it is of one type or of none
abbrev pub is_allowed_group : {R : Type 0} → Features → RecGroup R → Bool
is_allowed_group features (Single type) = is_allowed_sub features type
is_allowed_group features (Group types) = has features Gc && list_all (is_allowed_sub features) types
