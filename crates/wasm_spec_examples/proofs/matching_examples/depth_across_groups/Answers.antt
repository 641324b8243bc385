use Rattle.std.proofs.Common.{◌≡◌, ℕ, zero, suc, ◌+◌, ◌<◌, ◌≤◌, List, [], ◌∷◌, ◌++◌, length, map, Some, arith, refl, ap, sym, ◌∙◌, subst}
use Rattle.std.specs.List.{slice_get, flat_map}
use Rattle.std.specs.Option.{unwrap_or}
use Rattle.wasm_spec.specs.Groups.{HasDepth, IsWithinGroupLimits, PassesLimit}
use Rattle.wasm_spec.specs.Limits.{Limit, Depth}
use Rattle.wasm_spec.specs.Syntax.{members}
use Rattle.wasm_spec.specs.Trees.{AreInRange, DefType, no_type, section_types, tree_of, type_at, unrolled}
use Rattle.wasm_spec.specs.Types.{Single, SubType}
use Rattle.wasm_spec.proofs.GroupTrees.{section_count}
use Rattle.wasm_spec.proofs.Places.{get_right}
use Rattle.wasm_spec.proofs.SectionTypes.{more_types, section_keeps}
use Rattle.wasm_spec.proofs.TypeLimits.{depth_zero, depth_suc, depth_passed, passes_none}
use Rattle.wasm_spec_examples.specs.TypeExamples.{chain_from, empty_structure, lone_chain, open_below, open_type}
use Rattle.wasm_spec_examples.proofs.TypeChains.{chain_from_at, few, length-chain_from}
use Rattle.wasm_spec_examples.proofs.matching_examples.depth_across_groups.Goals as goal

members_alone : (types : List (SubType ℕ)) → flat_map members (map Single types) ≡ types
members_alone [] = refl
members_alone (type ∷ types) = ap (λ ts. type ∷ ts) (members_alone types)

range_from : (i n before : ℕ) → i < before → AreInRange before (map Single (chain_from i n))
range_from i zero before h = tt
range_from i (suc n) before h = ((omega (arith, h), tt), range_from (suc i) n (before + 1) (omega (arith, h)))

in_range : (n : ℕ) → AreInRange 0 (lone_chain n)
in_range n = (tt, range_from 0 n (0 + 1) (omega arith))

-- the types of a chain, by index
abbrev types : ℕ → List DefType
types n = section_types (lone_chain n)

abbrev at : ℕ → ℕ → DefType
at n index = type_at (types n) index

first : (n : ℕ) → unrolled (at n 0) ≡ Some (open_type empty_structure)
first n = section_keeps (lone_chain n) (in_range n) 0 (open_type empty_structure) refl

next : (n j : ℕ) → j < n → unrolled (at n (suc j)) ≡ Some (open_below (at n j) empty_structure)
next n j h =
    let place : 0 + j ≡ j = omega arith in
    let P : ℕ → Type 0 = λ k. slice_get (flat_map members (lone_chain n)) (suc j) ≡ Some (open_below k empty_structure) in
    let is : slice_get (flat_map members (lone_chain n)) (suc j) ≡ Some (open_below j empty_structure) =
    subst P place (ap (λ ts. slice_get ts j) (members_alone (chain_from 0 n)) ∙ chain_from_at 0 n j h) in
    section_keeps (lone_chain n) (in_range n) (suc j) (open_below j empty_structure) is

depth : (n j : ℕ) → j ≤ n → HasDepth unrolled (at n j) j
depth n zero h = depth_zero unrolled (at n 0) (open_type empty_structure) (first n) refl
depth n (suc j) h =
    depth_suc unrolled (at n (suc j)) (at n j) (open_below (at n j) empty_structure) j (next n j (omega (arith, h))) refl (depth n j (omega (arith, h)))

no_limit : (n : ℕ) → suc n ≤ 63 → (limit : Limit) → PassesLimit unrolled (at (suc n) (suc n)) limit → ⊥
no_limit n h =
    passes_none unrolled (at (suc n) (suc n)) (open_below (at (suc n) n) empty_structure) (suc n) (next (suc n) n (omega arith)) (depth (suc n) (suc n) (omega arith)) h few

-- ---- the last type of a chain is what comes after a shorter one

last_group : (i n : ℕ) → map Single (chain_from i (suc n)) ≡ map Single (chain_from i n) ++ (Single (open_below (i + n) empty_structure) ∷ [])
last_group i zero = let e : i + 0 ≡ i = omega arith in rw e
last_group i (suc n) =
    let e : i + suc n ≡ suc i + n = omega arith in
    ap (λ groups. Single (open_below i empty_structure) ∷ groups) (rw e (last_group (suc i) n))

abbrev last : ℕ → DefType
last n = record { tree = tree_of (types n) (Single (open_below n empty_structure)); place = 0 }

count : (n : ℕ) → length (types n) ≡ suc n
count n =
    let all = section_count (lone_chain n) in
    let own : length (flat_map members (lone_chain n)) ≡ suc (length (flat_map members (map Single (chain_from 0 n)))) = refl in
    omega (arith, all, own, ap length (members_alone (chain_from 0 n)), length-chain_from 0 n)

last_is : (n : ℕ) → at (suc n) (suc n) ≡ last n
last_is n =
    let index : 0 + n ≡ n = omega arith in
    let P : ℕ → Type 0 = λ k. lone_chain (suc n) ≡ lone_chain n ++ (Single (open_below k empty_structure) ∷ []) in
    let groups : lone_chain (suc n) ≡ lone_chain n ++ (Single (open_below n empty_structure) ∷ []) =
    subst P index (ap (λ groups. Single (open_type empty_structure) ∷ groups) (last_group 0 n)) in
    let all : types (suc n) ≡ types n ++ (last n ∷ []) = ap section_types groups ∙ more_types [] (lone_chain n) (Single (open_below n empty_structure)) in
    let place : length (types n) + 0 ≡ suc n = omega (arith, count n) in
    let found : slice_get (types n ++ (last n ∷ [])) (length (types n) + 0) ≡ Some (last n) = get_right (types n) (last n ∷ []) 0 in
    ap (λ ts. type_at ts (suc n)) all ∙ ap (λ q. unwrap_or q no_type) (ap (slice_get (types n ++ (last n ∷ []))) (sym place) ∙ found)

-- it passes no limit
abbrev IsWithin : DefType → Type 0
IsWithin type = (limit : Limit) → PassesLimit unrolled type limit → ⊥

within : (n : ℕ) → suc n ≤ 63 → IsWithinGroupLimits (types n) (Single (open_below n empty_structure))
within n h = (subst IsWithin (last_is n) (no_limit n h), tt)

passed : (n : ℕ) → 63 < suc n → IsWithinGroupLimits (types n) (Single (open_below n empty_structure)) → ⊥
passed n h all =
    let is : IsWithin (at (suc n) (suc n)) = subst IsWithin (sym (last_is n)) all.0 in
    is Depth ((depth_passed unrolled (at (suc n) (suc n)) (suc n) (depth (suc n) (suc n) (omega arith))).1 h)

pub returns : goal.returns
returns c = record {
  most_links = within 62 (omega arith);
  many_links = passed 63 (omega arith);
}
