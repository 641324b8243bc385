-- Small modules, and what worked examples say of them.
use Rattle.std.proofs.Common.{◌≡◌, ◌≤◌, ◌<◌, ℕ, zero, suc, List, [], ◌∷◌, ◌++◌, length, slice_get, Some, refl, sym, subst, ap, arith}
use Rattle.std.specs.Option.{option_map}
use Rattle.std.proofs.lemmas.List.{length-map}
use Rattle.wasm_spec.specs.Groups.{PassesLimit, many_items, items_in}
use Rattle.wasm_spec.specs.Limits.{Limit, Fields, Params, Results, most}
use Rattle.wasm_spec.specs.Trees.{DefType, reference_of, seen_from, tree_of, unrolled}
use Rattle.wasm_spec.specs.TypeReferences.{func_map, sub_map, subs_map, val_map}
use Rattle.wasm_spec.specs.Types.{I32, FuncType, FuncComposite, RecGroup, Group, Single, SubType}
use Rattle.wasm_spec.proofs.GroupTrees.{opened-roll}
use Rattle.wasm_spec.proofs.TypeLimits.{depth_zero, passes_none}
use Rattle.wasm_spec_examples.specs.TypeExamples.{empty_function, empty_structure, final_type, gives}
use Rattle.wasm_validity.specs.Context.{Context, after, after_all}
use Rattle.wasm_validity.specs.DefinedTypes.{PassesGroupLimit}
use Rattle.wasm_validity.specs.Entries.{Entry}
use Rattle.wasm_validity.specs.Rules.{KeepLimits}

-- ---- the type of functions that take and give nothing, first of all

abbrev first_type : DefType
first_type = record { tree = tree_of [] (Single (final_type empty_function)); place = 0 }

no_items : (limit : Limit) → items_in {R = DefType} empty_function limit ≤ most limit
no_items Params = omega arith
no_items Results = omega arith
no_items _ = omega arith

passes_no_limit : (limit : Limit) → PassesLimit unrolled first_type limit → ⊥
passes_no_limit =
    passes_none unrolled first_type (final_type empty_function) 0 refl (depth_zero unrolled first_type (final_type empty_function) refl refl) (omega arith) no_items

pub group_passes_none : (limit : Limit) → PassesGroupLimit [] (Single (final_type empty_function)) limit → ⊥
group_passes_none limit p = at_place p.place p.type p.at p.passes
  where
    at_place : (place : ℕ) (other : DefType) → slice_get (first_type ∷ []) place ≡ Some other → PassesLimit unrolled other limit → ⊥
    at_place zero other at passes =
        let same : first_type ≡ other = cc in
        passes_no_limit limit (subst (λ t. PassesLimit unrolled t limit) (sym same) passes)
    at_place (suc place) other at passes = absurd cc

-- ---- limits

-- a function of many parameters passes their limit
pub many_params : (func : FuncType ℕ) → 1000 < length func.params → PassesGroupLimit [] (Single (final_type (FuncComposite func))) Params
many_params func many =
    let type = final_type (FuncComposite func) in
    let seen = seen_from (tree_of [] (Single type)) in
    let written = func_map (reference_of []) func in
    record {
      place = 0;
      type = record { tree = tree_of [] (Single type); place = 0 };
      at = refl;
      passes = many_items (record {
        type = sub_map seen (sub_map (reference_of []) type);
        is = ap (λ types. option_map (sub_map seen) (slice_get types 0)) (opened-roll (subs_map (reference_of []) (type ∷ [])));
        holds = omega (arith, many, length-map func.params (val_map (reference_of [])), length-map written.params (val_map seen));
      });
    }

-- the last of some entries pass no limit after the others
pub limits_after : (cx : Context) (xs ys : List Entry) → KeepLimits cx (xs ++ ys) → KeepLimits (after_all cx xs) ys
limits_after cx [] ys h = h
limits_after cx (x ∷ xs) ys h = limits_after (after cx x) xs ys h.1

-- ---- types that pass no limit

-- a type without supertypes and with few items
pub lone_passes_none : (type : DefType) (sub : SubType DefType) → unrolled type ≡ Some sub → sub.supertypes ≡ [] → ((limit : Limit) → items_in sub.composite_type limit ≤ most limit)
    → (limit : Limit) → PassesLimit unrolled type limit → ⊥
lone_passes_none type sub is alone few = passes_none unrolled type sub 0 is (depth_zero unrolled type sub is alone) (omega arith) few

no_fields : (limit : Limit) → items_in {R = DefType} empty_structure limit ≤ most limit
no_fields Fields = omega arith
no_fields _ = omega arith

one_result : (limit : Limit) → items_in {R = DefType} (FuncComposite (gives (I32 ∷ []))) limit ≤ most limit
one_result Params = omega arith
one_result Results = omega arith
one_result _ = omega arith

-- a group of one type
pub lone_group : (before : List DefType) (type : SubType ℕ) → ((limit : Limit) → PassesLimit unrolled (record { tree = tree_of before (Single type); place = 0 }) limit → ⊥)
    → (limit : Limit) → PassesGroupLimit before (Single type) limit → ⊥
lone_group before type h limit p = at_place p.place p.type p.at p.passes
  where
    first : DefType
    first = record { tree = tree_of before (Single type); place = 0 }

    at_place : (place : ℕ) (other : DefType) → slice_get (first ∷ []) place ≡ Some other → PassesLimit unrolled other limit → ⊥
    at_place zero other at passes =
        let same : first ≡ other = cc in
        h limit (subst (λ t. PassesLimit unrolled t limit) (sym same) passes)
    at_place (suc place) other at passes = absurd cc

-- a function that gives a number
pub result_passes_none : (before : List DefType) (limit : Limit) → PassesGroupLimit before (Single (final_type (FuncComposite (gives (I32 ∷ []))))) limit → ⊥
result_passes_none before = lone_group before (final_type (FuncComposite (gives (I32 ∷ [])))) (lone_passes_none _ (final_type (FuncComposite (gives (I32 ∷ [])))) refl refl one_result)

-- a structure and a function in a group
abbrev two_types : RecGroup ℕ
two_types = Group (final_type empty_structure ∷ final_type empty_function ∷ [])

pub pair_passes_none : (limit : Limit) → PassesGroupLimit [] two_types limit → ⊥
pair_passes_none limit p = at_place p.place p.type p.at p.passes
  where
    type_at_place : ℕ → DefType
    type_at_place place = record { tree = tree_of [] two_types; place = place }

    at_place : (place : ℕ) (other : DefType) → slice_get (type_at_place 0 ∷ type_at_place 1 ∷ []) place ≡ Some other → PassesLimit unrolled other limit → ⊥
    at_place zero other at passes =
        let same : type_at_place 0 ≡ other = cc in
        lone_passes_none (type_at_place 0) (final_type empty_structure) refl refl no_fields limit (subst (λ t. PassesLimit unrolled t limit) (sym same) passes)
    at_place (suc zero) other at passes =
        let same : type_at_place 1 ≡ other = cc in
        lone_passes_none (type_at_place 1) (final_type empty_function) refl refl no_items limit (subst (λ t. PassesLimit unrolled t limit) (sym same) passes)
    at_place (suc (suc place)) other at passes = absurd cc
