-- The check of a shape depends on the flags of features alone.
use Rattle.std.proofs.Common.{◌≡◌, ℕ, List, [], ◌∷◌, refl, sym, ap, ◌∙◌}
use Rattle.std.specs.Prelude.{◌&&◌, ◌||◌, Some}
use Rattle.wasm_spec.specs.Features.{Features, FunctionReferences, has}
use Rattle.wasm_spec.specs.Types.{ExternalType, FuncExternal, TableExternal, MemoryExternal, GlobalExternal, TagExternal}
use Rattle.wasm_validity.specs.Rules.{may_leave}
use Rattle.wasm_smith_validity.specs.Rules.{keeps_table}
use Rattle.wasm_smith_validity.specs.Spaces.{Spaces, spaces_of_types}
use Rattle.wasm_smith_validity.proofs.AlikeFeatures.{HaveSameFlags, alike_both, flags_back, item_alike, items_alike, leave_alike, table_alike, valid_groups_alike, value_alike}
use Rattle.wasm_smith_shapes.specs.Shapes.{ShapeValue, exported_items, imported_items, shape_types}
use Rattle.wasm_smith_shapes.specs.ValidShapes.{HasGoodExports, HasGoodGroups, HasGoodImports, IsBadPart, IsGoodShape, bad_exports, bad_groups, bad_imports, imported_spaces, keep_own, keeps_own, with_own}
use Rattle.wasm_smith_shapes.specs.declared.shape.ShapeUse.{ShapeUse}

module _ (f g : Features) (same : HaveSameFlags f g) where
  own_alike : (spaces : Spaces) (type : ExternalType ℕ) → keeps_own f spaces type ≡ keeps_own g spaces type
  own_alike spaces (FuncExternal function) = refl
  own_alike spaces (TableExternal type) =
      alike_both (keeps_table f spaces type) (keeps_table g spaces type)
      (type.element_type.nullable || has f FunctionReferences) (type.element_type.nullable || has g FunctionReferences)
      (table_alike f g same spaces type) (ap (λ on. type.element_type.nullable || on) (same FunctionReferences))
  own_alike spaces (MemoryExternal type) = item_alike f g same spaces (MemoryExternal type)
  own_alike spaces (GlobalExternal type) = value_alike f g same spaces.types type.value_type
  own_alike spaces (TagExternal function) = item_alike f g same spaces (TagExternal function)

  all_own_alike : (spaces : Spaces) (types : List (ExternalType ℕ)) → keep_own f spaces types ≡ keep_own g spaces types
  all_own_alike spaces [] = refl
  all_own_alike spaces (type ∷ types) =
      alike_both (keeps_own f spaces type && may_leave f (Some type)) (keeps_own g spaces type && may_leave g (Some type))
      (keep_own f (with_own spaces type) types) (keep_own g (with_own spaces type) types)
      (alike_both (keeps_own f spaces type) (keeps_own g spaces type) (may_leave f (Some type)) (may_leave g (Some type)) (own_alike spaces type) (leave_alike f g same (Some type)))
      (all_own_alike (with_own spaces type) types)

  good_groups_alike : (purpose : ShapeUse) (most : ℕ) (it : ShapeValue) → HasGoodGroups f purpose most it → HasGoodGroups g purpose most it
  good_groups_alike purpose most it good = record { few = good.few; valid = valid_groups_alike f g same it.groups good.valid; forms = good.forms }

  good_imports_alike : (purpose : ShapeUse) (most : ℕ) (it : ShapeValue) → HasGoodImports f purpose most it → HasGoodImports g purpose most it
  good_imports_alike purpose most it good = record {
    none = good.none;
    few = good.few;
    forms = good.forms;
    kept = sym (items_alike f g same (spaces_of_types (shape_types it)) (imported_items it)) ∙ good.kept;
  }

  good_exports_alike : (purpose : ShapeUse) (most : ℕ) (it : ShapeValue) → HasGoodExports f purpose most it → HasGoodExports g purpose most it
  good_exports_alike purpose most it good = record {
    none = good.none;
    few = good.few;
    forms = good.forms;
    kept = sym (all_own_alike (imported_spaces it) (exported_items it)) ∙ good.kept;
    distinct = good.distinct;
  }

-- modules are made for the same shapes
pub good_alike : (f g : Features) → HaveSameFlags f g → (purpose : ShapeUse) (most : ℕ) (it : ShapeValue) → IsGoodShape f purpose most it → IsGoodShape g purpose most it
good_alike f g same purpose most it good = record {
  groups = good_groups_alike f g same purpose most it good.groups;
  imports = good_imports_alike f g same purpose most it good.imports;
  exports = good_exports_alike f g same purpose most it good.exports;
}

-- and others are refused for the same part
pub bad_alike : (f g : Features) → HaveSameFlags f g → (purpose : ShapeUse) (most : ℕ) (it : ShapeValue) (part : List ℕ)
    → IsBadPart f purpose most it part → IsBadPart g purpose most it part
bad_alike f g same purpose most it part (bad_groups bad) = bad_groups (λ good. bad (good_groups_alike g f (flags_back f g same) purpose most it good))
bad_alike f g same purpose most it part (bad_imports groups bad) =
    bad_imports (good_groups_alike f g same purpose most it groups) (λ good. bad (good_imports_alike g f (flags_back f g same) purpose most it good))
bad_alike f g same purpose most it part (bad_exports groups imports bad) =
    bad_exports (good_groups_alike f g same purpose most it groups) (good_imports_alike f g same purpose most it imports)
    (λ good. bad (good_exports_alike g f (flags_back f g same) purpose most it good))
