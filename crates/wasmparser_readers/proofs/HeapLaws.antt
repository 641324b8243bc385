-- Reading heap types and references.
use Rattle.std.proofs.Common.{◌≡◌, ℕ, ℤ, pos, negsuc, List, [], ◌∷◌, Some, None, refl, ap, ◌∙◌, Fits, w32, arith}
use Rattle.std.specs.List.{slice_get}
use lib.Dec.{T}
use lib.IntN.{nat_abs}
use lib.Signed.{non_neg}
use Rattle.wasm_core_read.specs.Input.{Input}
use Rattle.wasm_core_read.specs.Laws.{IsRead}
use Rattle.wasm_core_read.specs.Reading.{byte_at, signed_at, seen_at}
use Rattle.wasm_core_read.specs.TypeReading.{look_up, heap_codes, index_of, heap_type_at, heap_index_at}
use Rattle.wasm_core_read.proofs.Forms.{some_is}
use Rattle.wasm_core_read.proofs.NumberForms.{IsWithinBits, signed_within}
use Rattle.wasm_spec.specs.Bytes.{IsS33}
use Rattle.wasm_spec.specs.Types.{AbstractHeapType, Abstract, Concrete}

-- ---- indexes

-- a number that isn't negative fits
pub index_cast : (z : ℤ) → IsWithinBits 32 z → T (non_neg z) → T (non_neg z) × Fits w32 (nat_abs z)
index_cast (pos n) h t = (t, omega (arith, h))
index_cast (negsuc n) h t = absurd t

pub index_fits : (old new : Input) (z : ℤ) → IsRead IsS33 old new z → IsWithinBits 32 z
index_fits old new z h = signed_within 33 h.found.encoding z h.found.encodes

pub no_number : (bytes : List ℕ) → signed_at 33 bytes ≡ None → heap_index_at bytes ≡ None
unfolding heap_index_at
no_number bytes e = rw e refl

pub negative : (bytes : List ℕ) (z : ℤ) (after : List ℕ) → signed_at 33 bytes ≡ Some (z, after) → index_of z ≡ None → heap_index_at bytes ≡ None
unfolding heap_index_at
negative bytes z after e none = rw (e, none) refl

pub index : (bytes : List ℕ) (z : ℤ) (after : List ℕ) (n : ℕ) → signed_at 33 bytes ≡ Some (z, after) → index_of z ≡ Some n → heap_index_at bytes ≡ Some (n, after)
unfolding heap_index_at
index bytes z after n e some = rw (e, some) refl

pub ruleset index_steps = (index_fits, no_number, negative, index)

-- ---- heap types

pub heap_cut : (bytes : List ℕ) → slice_get bytes 0 ≡ None → heap_type_at bytes ≡ None
unfolding heap_type_at
heap_cut [] e = refl
heap_cut (b ∷ rest) e = absurd cc

pub heap_abstract : (bytes : List ℕ) (code : ℕ) (b : ℕ) (rest : List ℕ) (heap : AbstractHeapType) → slice_get bytes 0 ≡ Some code → look_up heap_codes code ≡ Some heap → byte_at bytes ≡ Some (b, rest)
    → heap_type_at bytes ≡ Some (Abstract heap, rest)
unfolding heap_type_at byte_at
heap_abstract [] code b rest heap e h f = absurd cc
heap_abstract (c ∷ cs) code b rest heap e h f =
    let p = some_is (c, cs) (b, rest) f in
    let k : look_up heap_codes c ≡ Some heap = ap (look_up heap_codes) (some_is c code e) ∙ h in
    rw k (ap (λ (q : ℕ × List ℕ). Some (Abstract heap, q.1)) p)

heap_other : (bytes : List ℕ) (code : ℕ) → slice_get bytes 0 ≡ Some code → look_up heap_codes code ≡ None → heap_type_at bytes ≡ seen_at (λ index. Concrete index) heap_index_at bytes
unfolding heap_type_at
heap_other [] code e h = absurd cc
heap_other (c ∷ cs) code e h =
    let k : look_up heap_codes c ≡ None = ap (look_up heap_codes) (some_is c code e) ∙ h in
    rw k refl

pub heap_no_index : (bytes : List ℕ) (code : ℕ) → slice_get bytes 0 ≡ Some code → look_up heap_codes code ≡ None → heap_index_at bytes ≡ None → heap_type_at bytes ≡ None
heap_no_index bytes code e h none = heap_other bytes code e h ∙ rw none refl

pub heap_index : (bytes : List ℕ) (code : ℕ) (n : ℕ) (after : List ℕ) → slice_get bytes 0 ≡ Some code → look_up heap_codes code ≡ None → heap_index_at bytes ≡ Some (n, after) → heap_type_at bytes ≡ Some (Concrete n, after)
heap_index bytes code n after e h some = heap_other bytes code e h ∙ rw some refl

-- which can't be
pub heap_no_byte : (bytes : List ℕ) (code : ℕ) → slice_get bytes 0 ≡ Some code → byte_at bytes ≡ None → heap_type_at bytes ≡ None
unfolding byte_at
heap_no_byte [] code e h = absurd cc
heap_no_byte (b ∷ rest) code e h = absurd cc

pub ruleset heap_steps = (heap_cut, heap_no_byte, heap_abstract, heap_no_index, heap_index)
