-- The items that a module defines for the exports of a shape.
use Rattle.std.proofs.Common.{◌≡◌, ℕ, ◌+◌, ◌-◌, ◌≤◌, ◌^◌, List, [], ◌∷◌, map, length, Option, Some, None, refl, sym, ap, ◌∙◌, arith}
use Rattle.wasm_encoder_sections.specs.CoreItems.{entity_type}
use Rattle.wasm_spec.specs.TypeReferences.{external_map}
use Rattle.wasm_spec.specs.Types.{SubType}
use Rattle.wasm_smith_config.proofs.UnionLaws.{flags, grown_by}
use Rattle.wasm_smith_config.specs.Rows.{switches}
use Rattle.wasm_smith_config.specs.declared.config.Config.{Config}
use Rattle.wasm_smith_definitions.proofs.MovedTypes.{items_shifted}
use Rattle.wasm_smith_definitions.proofs.ShapeRules.{shape_own_below}
use Rattle.wasm_smith_definitions.specs.OwnItems.{own_items}
use Rattle.wasm_smith_externs.specs.ShapeExports.{moved_types}
use Rattle.wasm_smith_module.specs.Asked.{IsGoodFor, asked_items, exports_in, exports_start, own_of}
use Rattle.wasm_smith_shapes.specs.Shapes.{NamedItem, ShapeValue, exported_items, named_item, shape_types}
use Rattle.wasm_smith_shapes.specs.declared.shape.ShapeExport.{ShapeExport}
use Rattle.wasm_smith_shapes.specs.declared.shape.ShapeUse.{ShapeUse}
use Rattle.wasm_smith_types.specs.Copies.{shifted_index}
use Rattle.wasm_smith_types.specs.Given.{export_shape, type_count}

-- ---- the types of exports

-- as the code has them
pub moved_are : (f : ℕ → ℕ) (exports : List ShapeExport) → map (external_map f) (map (λ (export : ShapeExport). entity_type export.ty) exports) ≡ moved_types f (map named_item exports)
moved_are f [] = refl
moved_are f (export ∷ exports) = ap (λ types. external_map f (entity_type export.ty) ∷ types) (moved_are f exports)

pub moved_items : (f : ℕ → ℕ) (items : List NamedItem) → moved_types f items ≡ map (external_map f) (map (λ (item : NamedItem). item.type) items)
moved_items f [] = refl
moved_items f (item ∷ items) = ap (λ types. external_map f item.type ∷ types) (moved_items f items)

-- ---- own items

pub own_are : (c : Config) (types : List (SubType ℕ)) (shape : ShapeValue) (purpose : ShapeUse) (count : ℕ) → IsGoodFor c purpose (Some shape) → count ≡ length types → length types ≤ 2 ^ 31 → export_shape c ≡ Some shape
    → own_items (moved_types (shifted_index 0 (count - length (shape_types shape))) shape.exports) ≡ own_of c types
own_are c types shape purpose count is_good many few asked =
    let features = grown_by 0 (switches c) in
    let sample = is_good features (flags c) in
    let n = length (shape_types shape) in
    let m = count - n in
    let below = shape_own_below features shape sample.exports.kept in
    let fits : m + n ≤ 2 ^ 32 = let few_types = sample.groups.few in omega (arith, many, few, few_types) in
    let start : m ≡ exports_start c (length types) = let given = ap type_count asked in omega (arith, many, given) in
    let shifted : moved_types (shifted_index 0 m) shape.exports ≡ moved_types (λ r. m + r) shape.exports =
    moved_items (shifted_index 0 m) shape.exports ∙ items_shifted m n (exported_items shape) fits below ∙ sym (moved_items (λ r. m + r) shape.exports) in
    let all : moved_types (λ r. m + r) shape.exports ≡ asked_items c (length types) =
    ap (λ k. moved_types (λ r. k + r) shape.exports) start ∙ ap (λ x. moved_types (λ r. exports_start c (length types) + r) (exports_in x)) (sym asked) in
    ap own_items (shifted ∙ all)

pub few_shape_types : (c : Config) (purpose : ShapeUse) (shape : ShapeValue) → IsGoodFor c purpose (Some shape) → length (shape_types shape) ≤ 2 ^ 29
few_shape_types c purpose shape is_good = (is_good (grown_by 0 (switches c)) (flags c)).groups.few

pub few_types_given : (c : Config) (purpose : ShapeUse) (asked : Option ShapeValue) → IsGoodFor c purpose asked → type_count asked ≤ 2 ^ 29
few_types_given c purpose (Some shape) is_good = few_shape_types c purpose shape is_good
few_types_given c purpose None is_good = omega arith
