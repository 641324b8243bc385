use Rattle.std.proofs.Common.{◌≡◌, ℕ, zero, suc, ◌+◌, ◌<◌, ◌≤◌, List, [], ◌∷◌, ◌++◌, length, Some, arith, refl, ap, sym, ◌∙◌, subst}
use Rattle.std.proofs.lemmas.List.{append-nil}
use Rattle.std.proofs.lemmas.Option.{slice_get_within}
use Rattle.std.specs.List.{slice_get, AllByRecursion, flat_map}
use Rattle.std.specs.Option.{unwrap_or}
use Rattle.wasm_spec.specs.Groups.{HasDepth, IsWithinGroupLimits, PassesLimit}
use Rattle.wasm_spec.specs.Limits.{Limit, Depth}
use Rattle.wasm_spec.specs.Syntax.{members}
use Rattle.wasm_spec.specs.Trees.{AreInRange, DefType, no_type, section_types, type_at, unrolled}
use Rattle.wasm_spec.specs.TypeReferences.{sub_refs}
use Rattle.wasm_spec.proofs.GroupTrees.{section_count}
use Rattle.wasm_spec.proofs.Places.{all_by_place, all_get, get_left, get_some}
use Rattle.wasm_spec.proofs.SectionTypes.{section_keeps}
use Rattle.wasm_spec.proofs.TypeLimits.{depth_zero, depth_suc, depth_passed, passes_none}
use Rattle.wasm_spec_examples.specs.TypeExamples.{chain, chain_from, empty_structure, open_below, open_type}
use Rattle.wasm_spec_examples.proofs.TypeChains.{chain_from_at, few, length-chain_from}
use Rattle.wasm_spec_examples.proofs.type_examples.depth_limits.Goals as goal

refs_below : (i n bound : ℕ) → i + n ≤ bound → AllByRecursion (λ r. r < bound) (flat_map sub_refs (chain_from i n))
refs_below i zero bound h = tt
refs_below i (suc n) bound h = (omega (arith, h), refs_below (suc i) n bound (omega (arith, h)))

in_range : (n : ℕ) → AreInRange 0 (chain n ∷ [])
in_range n = (refs_below 0 n (0 + suc (length (chain_from 0 n))) (omega (arith, length-chain_from 0 n)), tt)

-- the types of a chain, by index
abbrev types : ℕ → List DefType
types n = section_types (chain n ∷ [])

abbrev at : ℕ → ℕ → DefType
at n index = type_at (types n) index

first : (n : ℕ) → unrolled (at n 0) ≡ Some (open_type empty_structure)
first n = section_keeps (chain n ∷ []) (in_range n) 0 (open_type empty_structure) refl

next : (n j : ℕ) → j < n → unrolled (at n (suc j)) ≡ Some (open_below (at n j) empty_structure)
next n j h =
    let inside : j < length (chain_from 0 n) = omega (arith, h, length-chain_from 0 n) in
    let place : 0 + j ≡ j = omega arith in
    let P : ℕ → Type 0 = λ k. slice_get (chain_from 0 n ++ []) j ≡ Some (open_below k empty_structure) in
    let is : slice_get (chain_from 0 n ++ []) j ≡ Some (open_below j empty_structure) =
    subst P place (get_left (chain_from 0 n) [] j inside ∙ chain_from_at 0 n j h) in
    section_keeps (chain n ∷ []) (in_range n) (suc j) (open_below j empty_structure) is

depth : (n j : ℕ) → j ≤ n → HasDepth unrolled (at n j) j
depth n zero h = depth_zero unrolled (at n 0) (open_type empty_structure) (first n) refl
depth n (suc j) h =
    depth_suc unrolled (at n (suc j)) (at n j) (open_below (at n j) empty_structure) j (next n j (omega (arith, h))) refl (depth n j (omega (arith, h)))

no_limit : (n j : ℕ) → n ≤ 63 → j ≤ n → (limit : Limit) → PassesLimit unrolled (at n j) limit → ⊥
no_limit n zero few_links h =
    passes_none unrolled (at n 0) (open_type empty_structure) 0 (first n) (depth n 0 h) (omega arith) few
no_limit n (suc j) few_links h =
    passes_none unrolled (at n (suc j)) (open_below (at n j) empty_structure) (suc j) (next n j (omega (arith, h))) (depth n (suc j) h) (omega (arith, few_links, h)) few

count : (n : ℕ) → length (types n) ≡ suc n
count n =
    let all = section_count (chain n ∷ []) in
    let own : length (flat_map members (chain n ∷ [])) ≡ suc (length (chain_from 0 n ++ [])) = refl in
    omega (arith, all, own, ap length (append-nil (chain_from 0 n)), length-chain_from 0 n)

-- it passes no limit
abbrev IsWithin : DefType → Type 0
IsWithin type = (limit : Limit) → PassesLimit unrolled type limit → ⊥

within : (n : ℕ) → n ≤ 63 → IsWithinGroupLimits [] (chain n)
within n h =
    all_by_place IsWithin (types n) (λ j type e. subst IsWithin (ap (λ q. unwrap_or q no_type) e) (no_limit n j h (omega (arith, slice_get_within (types n) j type e, count n))))

passed : (n : ℕ) → 63 < n → IsWithinGroupLimits [] (chain n) → ⊥
passed n h all =
    let (type, is) = get_some (types n) n (omega (arith, count n)) in
    let last : IsWithin (at n n) = subst IsWithin (sym (ap (λ q. unwrap_or q no_type) is)) (all_get IsWithin (types n) all n type is) in
    last Depth ((depth_passed unrolled (at n n) n (depth n n (omega arith))).1 h)

pub returns : goal.returns
returns c = record {
  most_links = within 63 (omega arith);
  many_links = passed 64 (omega arith);
}
