-- The bits of a reference to an abstract heap type.
use Rattle.std.specs.Prelude.{◌≡◌, ℕ, ◌*◌, ◌/◌, ◌^◌, ◌<◌, ◌+◌, Bool, true, false, refl}
use Rattle.std.proofs.Common.{arith}
use mir.Val.{bool_byte}
use Rattle.wasm_spec.specs.Types as spec
use Rattle.wasm_spec.specs.TypeGrammar.{heap_code}
use Rattle.wasmparser_types.specs.RefBits.{IsHeapBits, abstract_at-code, heap_type_at, heap_type_at-bits, ref_type_at, ref_type_at-heap}

pub abstract_bits : (heap : spec.AbstractHeapType) (code : ℕ) → code < 2 ^ 8 → code ≡ heap_code heap → IsHeapBits (2 * code)
abstract_bits heap code small is =
    let half : 2 * code / 2 ≡ code = omega arith in
    record {
      within = omega arith;
      abstract = λ _. rw (half, is, abstract_at-code heap) refl;
      concrete = λ odd. absurd (omega arith);
    }

pub heap_type_at-code : (heap : spec.AbstractHeapType) (code : ℕ) → code ≡ heap_code heap → heap_type_at (2 * code) ≡ spec.Abstract heap
heap_type_at-code heap code is = rw is (heap_type_at-bits (spec.Abstract heap))

-- a flag in the lowest bit
pub ref_type_at-flag : (nullable : Bool) (bits : ℕ) → ref_type_at (2 * bits + bool_byte nullable) ≡ record { nullable = nullable; heap_type = heap_type_at bits }
ref_type_at-flag true bits = ref_type_at-heap true bits
ref_type_at-flag false bits = ref_type_at-heap false bits
