-- The bits of a reference type.
use Rattle.std.specs.Prelude.{◌≡◌, ℕ, ◌+◌, ◌-◌, ◌*◌, List, [], ◌∷◌, slice_index_or, ◌/◌, ◌%◌, ◌^◌, ◌<◌, ◌==◌, Bool, true, false, if◌then◌else◌, refl}
use Rattle.std.proofs.Common.{arith, ap, ◌∙◌}
use Rattle.std.proofs.lemmas.Bool.Decides.{nat_tests}
use Rattle.wasm_spec.specs.Types as spec
use Rattle.wasm_spec.specs.TypeGrammar.{heap_code}
use Rattle.wasmparser_types.specs.Index.{Index, IsPacked, packed, unpacked, packed-unpacked, unpacked-packed}

-- the abstract heap types, in the order of their bytes
abbrev pub abstract_heap_types : List spec.AbstractHeapType
abstract_heap_types =
    spec.Cont ∷ spec.Exn ∷ spec.Array ∷ spec.Struct ∷ spec.I31 ∷ spec.Eq ∷ spec.Any ∷ spec.Extern ∷ spec.Func ∷ spec.None ∷ spec.NoExtern ∷ spec.NoFunc ∷ spec.NoExn ∷ spec.NoCont ∷ []

-- the abstract heap type of a byte
abbrev pub abstract_at : ℕ → spec.AbstractHeapType
abstract_at code = slice_index_or abstract_heap_types (code - 0x68) spec.Cont

-- in the lowest bit whether it is a defined type, and above that its packed index, or the byte of an abstract heap type
abbrev pub heap_bits : spec.HeapType Index → ℕ
heap_bits (spec.Abstract heap) = 2 * heap_code heap
heap_bits (spec.Concrete index) = 2 * packed index + 1

abbrev pub heap_type_at : ℕ → spec.HeapType Index
heap_type_at bits = if bits % 2 == 0 then spec.Abstract (abstract_at (bits / 2)) else spec.Concrete (unpacked (bits / 2))

-- in the lowest bit whether it may be null, and above that its heap type
abbrev pub ref_bits : spec.RefType Index → ℕ
ref_bits type = 2 * heap_bits type.heap_type + (if type.nullable then 1 else 0)

abbrev pub ref_type_at : ℕ → spec.RefType Index
ref_type_at bits = record { nullable = bits % 2 == 1; heap_type = heap_type_at (bits / 2) }

-- these bits are those of a heap type
pub record IsHeapBits (bits : ℕ) : Type 0 where
  pub within : bits < 2 ^ 23
  pub abstract : bits % 2 ≡ 0 → heap_code (abstract_at (bits / 2)) ≡ bits / 2
  pub concrete : bits % 2 ≡ 1 → IsPacked (bits / 2)

pub heap_bits-at : (bits : ℕ) → IsHeapBits bits → heap_bits (heap_type_at bits) ≡ bits
heap_bits-at bits is = grind (arith, nat_tests, packed-unpacked, is.abstract, is.concrete)

pub ref_bits-at : (bits : ℕ) → IsHeapBits (bits / 2) → ref_bits (ref_type_at bits) ≡ bits
ref_bits-at bits is = grind (arith, nat_tests, heap_bits-at (bits / 2) is)

pub abstract_at-code : (heap : spec.AbstractHeapType) → abstract_at (heap_code heap) ≡ heap
abstract_at-code spec.Func = refl
abstract_at-code spec.Extern = refl
abstract_at-code spec.Any = refl
abstract_at-code spec.None = refl
abstract_at-code spec.NoExtern = refl
abstract_at-code spec.NoFunc = refl
abstract_at-code spec.Eq = refl
abstract_at-code spec.Struct = refl
abstract_at-code spec.Array = refl
abstract_at-code spec.I31 = refl
abstract_at-code spec.Exn = refl
abstract_at-code spec.NoExn = refl
abstract_at-code spec.Cont = refl
abstract_at-code spec.NoCont = refl

pub heap_type_at-bits : (type : spec.HeapType Index) → heap_type_at (heap_bits type) ≡ type
heap_type_at-bits (spec.Abstract heap) =
    let even : 2 * heap_code heap % 2 ≡ 0 = omega arith in
    let half : 2 * heap_code heap / 2 ≡ heap_code heap = omega arith in
    rw (even, half) (ap spec.Abstract (abstract_at-code heap))
heap_type_at-bits (spec.Concrete index) = grind (arith, nat_tests, unpacked-packed index)

pub ref_type_at-heap : (nullable : Bool) (bits : ℕ) → ref_type_at (2 * bits + (if nullable then 1 else 0)) ≡ record { nullable = nullable; heap_type = heap_type_at bits }
ref_type_at-heap true bits =
    let half : (2 * bits + 1) / 2 ≡ bits = omega arith in
    let odd : (2 * bits + 1) % 2 ≡ 1 = omega arith in
    rw (half, odd) refl
ref_type_at-heap false bits =
    let half : (2 * bits + 0) / 2 ≡ bits = omega arith in
    let even : (2 * bits + 0) % 2 ≡ 0 = omega arith in
    rw (half, even) refl

pub ref_type_at-bits : (type : spec.RefType Index) → ref_type_at (ref_bits type) ≡ type
ref_type_at-bits type = ref_type_at-heap type.nullable (heap_bits type.heap_type) ∙ ap (λ heap. record { nullable = type.nullable; heap_type = heap }) (heap_type_at-bits type.heap_type)
