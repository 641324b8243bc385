-- Chains of empty structures.
use Rattle.std.proofs.Common.{◌≡◌, ℕ, zero, suc, ◌+◌, ◌<◌, ◌≤◌, length, Some, arith, refl, ap}
use Rattle.std.specs.List.{slice_get}
use Rattle.wasm_spec.specs.Groups.{items_in}
use Rattle.wasm_spec.specs.Limits.{Limit, Fields, most}
use Rattle.wasm_spec.specs.Trees.{DefType}
use Rattle.wasm_spec_examples.specs.TypeExamples.{chain_from, empty_structure, open_below}

pub length-chain_from : (i n : ℕ) → length (chain_from i n) ≡ n
length-chain_from i zero = refl
length-chain_from i (suc n) = ap suc (length-chain_from (suc i) n)

pub chain_from_at : (i n j : ℕ) → j < n → slice_get (chain_from i n) j ≡ Some (open_below (i + j) empty_structure)
chain_from_at i zero j h = absurd (omega (arith, h))
chain_from_at i (suc n) zero h = let e : i + 0 ≡ i = omega arith in rw e
chain_from_at i (suc n) (suc j) h =
    let e : i + suc j ≡ suc i + j = omega arith in rw e (chain_from_at (suc i) n j (omega (arith, h)))

-- an empty structure passes no limit on items
pub few : (limit : Limit) → items_in (empty_structure {R = DefType}) limit ≤ most limit
few Fields = omega arith
few _ = omega arith
