-- Type indexes of blocks, which are written as those of heap types are.
use Rattle.std.proofs.Common.{◌≡◌, ℕ, ℤ, pos, negsuc, List, Some, None, refl, Fits, w32, arith}
use lib.Dec.{T}
use lib.IntN.{nat_abs}
use lib.Signed.{non_neg}
use Rattle.wasm_core_read.specs.Input.{Input}
use Rattle.wasm_core_read.specs.Laws.{IsRead}
use Rattle.wasm_core_read.specs.Reading.{signed_at}
use Rattle.wasm_core_read.specs.TypeReading.{index_of, heap_index_at}
use Rattle.wasm_core_read.proofs.NumberForms.{IsWithinBits, signed_within}
use Rattle.wasm_spec.specs.Bytes.{IsS33}

-- a number that isn't negative fits
pub index_cast : (z : ℤ) → IsWithinBits 32 z → T (non_neg z) → T (non_neg z) × Fits w32 (nat_abs z)
index_cast (pos n) h t = (t, omega (arith, h))
index_cast (negsuc n) h t = absurd t

pub index_fits : (old new : Input) (z : ℤ) → IsRead IsS33 old new z → IsWithinBits 32 z
index_fits old new z h = signed_within 33 h.found.encoding z h.found.encodes

pub no_number : (bytes : List ℕ) → signed_at 33 bytes ≡ None → heap_index_at bytes ≡ None
unfolding heap_index_at
no_number bytes e = rw e refl

pub negative : (bytes : List ℕ) (z : ℤ) (after : List ℕ) → signed_at 33 bytes ≡ Some (z, after) → index_of z ≡ None → heap_index_at bytes ≡ None
unfolding heap_index_at
negative bytes z after e none = rw (e, none) refl

pub index : (bytes : List ℕ) (z : ℤ) (after : List ℕ) (n : ℕ) → signed_at 33 bytes ≡ Some (z, after) → index_of z ≡ Some n → heap_index_at bytes ≡ Some (n, after)
unfolding heap_index_at
index bytes z after n e some = rw (e, some) refl

pub ruleset index_steps = (index_fits, no_number, negative, index)
