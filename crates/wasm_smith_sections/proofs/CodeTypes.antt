-- The value types of the code stand for those of the specification one to one.
use Rattle.std.proofs.Common.{◌≡◌, ℕ, refl, sym, ap, ◌∙◌}
use Rattle.wasm_spec.specs.Types as spec
use Rattle.wasm_core_types.specs.CoreTypes.{abstract_heap_type, heap_type, val_type}
use Rattle.wasm_core_types.specs.declared.types.AbstractHeapType.{AbstractHeapType}
use Rattle.wasm_core_types.specs.declared.types.AbstractHeapType.TheVariants as heaps
use Rattle.wasm_core_types.specs.declared.types.HeapType.{HeapType}
use Rattle.wasm_core_types.specs.declared.types.HeapType.TheVariants.{Abstract, Concrete}
use Rattle.wasm_core_types.specs.declared.types.ValType.{ValType}
use Rattle.wasm_core_types.specs.declared.types.ValType.TheVariants.{I32, I64, F32, F64, V128, Ref}

code_heap : spec.AbstractHeapType → AbstractHeapType
code_heap spec.Func = heaps.Func
code_heap spec.Extern = heaps.Extern
code_heap spec.Any = heaps.Any
code_heap spec.None = heaps.None
code_heap spec.NoExtern = heaps.NoExtern
code_heap spec.NoFunc = heaps.NoFunc
code_heap spec.Eq = heaps.Eq
code_heap spec.Struct = heaps.Struct
code_heap spec.Array = heaps.Array
code_heap spec.I31 = heaps.I31
code_heap spec.Exn = heaps.Exn
code_heap spec.NoExn = heaps.NoExn
code_heap spec.Cont = heaps.Cont
code_heap spec.NoCont = heaps.NoCont

code_heap_type : spec.HeapType ℕ → HeapType
code_heap_type (spec.Abstract heap) = Abstract (code_heap heap)
code_heap_type (spec.Concrete index) = Concrete index

pub code_type : spec.ValType ℕ → ValType
code_type spec.I32 = I32
code_type spec.I64 = I64
code_type spec.F32 = F32
code_type spec.F64 = F64
code_type spec.V128 = V128
code_type (spec.Ref nullable heap) = Ref (record { nullable = nullable; heap_type = code_heap_type heap })

heap_back : (heap : AbstractHeapType) → code_heap (abstract_heap_type heap) ≡ heap
unfolding code_heap
heap_back heaps.Func = refl
heap_back heaps.Extern = refl
heap_back heaps.Any = refl
heap_back heaps.None = refl
heap_back heaps.NoExtern = refl
heap_back heaps.NoFunc = refl
heap_back heaps.Eq = refl
heap_back heaps.Struct = refl
heap_back heaps.Array = refl
heap_back heaps.I31 = refl
heap_back heaps.Exn = refl
heap_back heaps.NoExn = refl
heap_back heaps.Cont = refl
heap_back heaps.NoCont = refl

heap_type_back : (type : HeapType) → code_heap_type (heap_type type) ≡ type
unfolding code_heap_type
heap_type_back (Abstract heap) = ap (λ h. Abstract h) (heap_back heap)
heap_type_back (Concrete index) = refl

type_back : (type : ValType) → code_type (val_type type) ≡ type
unfolding code_type
type_back I32 = refl
type_back I64 = refl
type_back F32 = refl
type_back F64 = refl
type_back V128 = refl
type_back (Ref r) = ap (λ h. Ref (record { nullable = r.nullable; heap_type = h })) (heap_type_back r.heap_type)

pub same_type : (s t : ValType) → val_type s ≡ val_type t → s ≡ t
same_type s t e = sym (type_back s) ∙ ap code_type e ∙ type_back t

-- ---- and back

heap_there : (heap : spec.AbstractHeapType) → abstract_heap_type (code_heap heap) ≡ heap
unfolding code_heap
heap_there spec.Func = refl
heap_there spec.Extern = refl
heap_there spec.Any = refl
heap_there spec.None = refl
heap_there spec.NoExtern = refl
heap_there spec.NoFunc = refl
heap_there spec.Eq = refl
heap_there spec.Struct = refl
heap_there spec.Array = refl
heap_there spec.I31 = refl
heap_there spec.Exn = refl
heap_there spec.NoExn = refl
heap_there spec.Cont = refl
heap_there spec.NoCont = refl

heap_type_there : (type : spec.HeapType ℕ) → heap_type (code_heap_type type) ≡ type
unfolding code_heap_type
heap_type_there (spec.Abstract heap) = ap (λ h. spec.Abstract h) (heap_there heap)
heap_type_there (spec.Concrete index) = refl

pub type_there : (type : spec.ValType ℕ) → val_type (code_type type) ≡ type
unfolding code_type
type_there spec.I32 = refl
type_there spec.I64 = refl
type_there spec.F32 = refl
type_there spec.F64 = refl
type_there spec.V128 = refl
type_there (spec.Ref nullable heap) = ap (λ h. spec.Ref nullable h) (heap_type_there heap)

pub same_code_type : (s t : spec.ValType ℕ) → code_type s ≡ code_type t → s ≡ t
same_code_type s t e = sym (type_there s) ∙ ap val_type e ∙ type_there t
