-- Groups whose types are small pass no limit.
use Rattle.std.proofs.Common.{◌≡◌, ℕ, ◌<◌, ◌≤◌, List, [], length, sym, ap, arith, Some, subst}
use Rattle.std.proofs.lemmas.Option.{slice_get_within}
use Rattle.std.specs.List.{slice_get}
use Rattle.std.specs.Option.{unwrap_or}
use Rattle.wasm_spec.specs.Features.{Features}
use Rattle.wasm_spec.specs.Groups.{AreWellFormedGroups, items_in, PassesLimit}
use Rattle.wasm_spec.specs.Limits.{Limit, Params, Results, Fields, most}
use Rattle.wasm_spec.specs.Trees.{DefType, section_types, type_at, no_type, unrolled}
use Rattle.wasm_spec.specs.Types.{RecGroup, CompositeType, FuncComposite, StructComposite, ArrayComposite, ContComposite}
use Rattle.wasm_spec.proofs.Carried.{limits_carried_back}
use Rattle.wasm_spec.proofs.GroupTrees.{section_count}
use Rattle.wasm_spec.proofs.Places.{all_get, all_by_place, get_some}
use Rattle.wasm_spec.proofs.SectionTypes.{section_keeps, section_closed}
use Rattle.wasm_spec.proofs.TypeLimits.{passes_none}
use Rattle.wasm_spec.proofs.SectionLimits.{rules_and_limits}
use Rattle.wasm_smith_types.specs.Bounds.{IsSmallComposite, IsSmall, AreSmall}
use Rattle.wasm_smith_validity.specs.ValidGroups.{AreValidGroups, types_of}
use Rattle.wasm_smith_validity.proofs.GroupLaws.{all_rules, depth_of, valid_in_range, valid_rules}

few_items : (c : CompositeType ℕ) → IsSmallComposite c → (limit : Limit) → items_in c limit ≤ most limit
few_items (FuncComposite t) h Params = let few = h.0 in omega (arith, few)
few_items (FuncComposite t) h Results = let few = h.1 in omega (arith, few)
few_items (FuncComposite t) h _ = omega arith
few_items (StructComposite fields) h Fields = omega (arith, h)
few_items (StructComposite fields) h _ = omega arith
few_items (ArrayComposite field) h limit = omega arith
few_items (ContComposite r) h limit = omega arith

pub small_groups : (features : Features) (groups : List (RecGroup ℕ)) → AreValidGroups features groups → AreSmall (types_of groups)
    → AreWellFormedGroups features [] groups
small_groups features groups valid small =
    rules_and_limits features groups [] (valid_rules features groups valid)
    (all_by_place (λ type. (limit : Limit) → PassesLimit unrolled type limit → ⊥) (section_types groups) within)
  where
    within : (index : ℕ) (type : DefType) → slice_get (section_types groups) index ≡ Some type → (limit : Limit) → PassesLimit unrolled type limit → ⊥
    within index type at limit passes =
        let f = type_at (section_types groups) in
        let types = types_of groups in
        let range = valid_in_range features groups valid in
        let lt : index < length types = omega (arith, section_count groups, slice_get_within (section_types groups) index type at) in
        let (sub, is) = get_some types index lt in
        let back = limits_carried_back f (slice_get types) unrolled (section_keeps groups range) (section_closed groups range) in
        let same : type ≡ f index = sym (ap (λ q. unwrap_or q no_type) at) in
        let here : PassesLimit (slice_get types) index limit = back.limits index limit (sub, is) (subst (λ t. PassesLimit unrolled t limit) same passes) in
        let (height, high, few) = (all_rules features groups valid index sub is).depth in
        let deep = depth_of (slice_get types) (λ r s e. (all_rules features groups valid r s e).extends) high.links high.type high.is high.none in
        passes_none (slice_get types) index sub height is deep few
        (few_items sub.composite_type (all_get IsSmall (types_of groups) small index sub is)) limit here
