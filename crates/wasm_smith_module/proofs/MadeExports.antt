-- Exports that a shape asks for.
use Rattle.std.specs.Prelude.{bytes_eq}
use Rattle.std.proofs.Common.{◌≡◌, ℕ, ◌+◌, ◌<◌, ◌≤◌, ◌^◌, true, List, [], map, length, Option, Some, None, refl, sym, ap, ◌∙◌, subst, arith}
use Rattle.std.specs.List.{AllByRecursion, IsDistinct}
use Rattle.std.proofs.lemmas.List.{length-map}
use Rattle.wasm_spec.specs.Syntax.{Export}
use Rattle.wasm_spec.specs.Types.{ExternalKind}
use Rattle.wasm_smith_config.proofs.UnionLaws.{flags, grown_by}
use Rattle.wasm_smith_config.specs.Config.{IsGood}
use Rattle.wasm_smith_config.specs.Rows.{switches}
use Rattle.wasm_smith_config.specs.declared.config.Config.{Config}
use Rattle.wasm_smith_definitions.specs.Kinds.{of_export}
use Rattle.wasm_smith_definitions.specs.Steps.{IsStep}
use Rattle.wasm_smith_externs.proofs.ShapeExportLaws.{exports_step}
use Rattle.wasm_smith_externs.specs.ShapeExports.{StandFrom, count_in, moved_types, shape_exports_from}
use Rattle.wasm_smith_externs.specs.declared.shape_exports.KindCounts.{KindCounts}
use Rattle.wasm_smith_module.proofs.OwnKeepLaws.{own_rules}
use Rattle.wasm_smith_module.specs.Asked.{HasGoodShapes, IsGoodFor, asked_items, exports_in, exports_start}
use Rattle.wasm_smith_module.specs.TrueToShapes.{AreTypesOf}
use Rattle.wasm_smith_shapes.specs.Shapes.{NamedItem, ShapeValue, named_item}
use Rattle.wasm_smith_shapes.specs.declared.shape.ShapeExport.{ShapeExport}
use Rattle.wasm_smith_shapes.specs.declared.shape.ShapeUse.{ShapeUse}
use Rattle.wasm_smith_shapes.specs.declared.shape.ShapeUse.TheVariants.{Module, Exports}
use Rattle.wasm_smith_types.specs.Given.{export_shape, or_else}
use Rattle.wasm_smith_validity.specs.Spaces.{Spaces, spaces_after_all}
use Rattle.wasm_validity.specs.Rules.{may_leave}

-- ---- the shape that exports are taken from

pub whole_exported : (c : Config) (shape : ShapeValue) → c.module_shape ≡ Some shape → export_shape c ≡ Some shape
whole_exported c shape e = ap (λ m. or_else m c.exports) e

pub shape_exported : (c : Config) (asked : Option ShapeValue) → c.module_shape ≡ None → c.exports ≡ asked → export_shape c ≡ asked
shape_exported c asked none e = ap (λ m. or_else m c.exports) none ∙ e

pub no_shape : (asked : Option ShapeValue) → ((shape : ShapeValue) → asked ≡ Some shape → ⊥) → asked ≡ None
no_shape (Some shape) h = absurd (h shape refl)
no_shape None h = refl

-- the exports of a shape, as the code has them
pub as_many : (shape : ShapeValue) (exports all : List ShapeExport) → exports ≡ all → map named_item all ≡ shape.exports → length exports ≡ length shape.exports
as_many shape exports all same are = ap length same ∙ sym (length-map all named_item) ∙ ap length are

pub exported_as : (shape : ShapeValue) (before : KindCounts) (made : List Export) (exports all : List ShapeExport) → made ≡ shape_exports_from before (map named_item exports) → exports ≡ all → map named_item all ≡ shape.exports
    → made ≡ shape_exports_from before shape.exports
exported_as shape before made exports all is same are = is ∙ ap (λ xs. shape_exports_from before (map named_item xs)) same ∙ ap (shape_exports_from before) are

-- it is good, for what it is
good_exports : (c : Config) (shape : ShapeValue) → HasGoodShapes c → export_shape c ≡ Some shape → (purpose : ShapeUse) × IsGoodFor c purpose (Some shape)
good_exports c shape shapes asked = go c.module_shape refl
  where
    go : (whole : Option ShapeValue) → c.module_shape ≡ whole → (purpose : ShapeUse) × IsGoodFor c purpose (Some shape)
    go (Some other) e = (Module, subst (IsGoodFor c Module) (e ∙ sym (whole_exported c other e) ∙ asked) shapes.module_shape)
    go None e = (Exports, subst (IsGoodFor c Exports) (sym (shape_exported c c.exports e refl) ∙ asked) shapes.exports)

module _ (c : Config) (shape : ShapeValue) (shapes : HasGoodShapes c) (asked : export_shape c ≡ Some shape) where
  few_asked : length shape.exports ≤ 2 ^ 29
  few_asked = let few = ((good_exports c shape shapes asked).1 (grown_by 0 (switches c)) (flags c)).exports.few in omega (arith, few)

  names_apart : IsDistinct bytes_eq (map (λ (item : NamedItem). item.name) shape.exports)
  names_apart = ((good_exports c shape shapes asked).1 (grown_by 0 (switches c)) (flags c)).exports.distinct

  pub few_exported : (before : KindCounts) (many : ℕ) → many ≡ length shape.exports → ((kind : ExternalKind) → count_in before kind + 2 ^ 29 < 2 ^ 32)
      → (kind : ExternalKind) → count_in before kind + many < 2 ^ 32
  few_exported before many are few kind = let room = few kind in omega (arith, room, are, few_asked)

  pub exported_step : (old new : Spaces) (before : KindCounts) → IsGood c → AreTypesOf c old.types → old.exports ≡ [] → StandFrom old before (asked_items c (length old.types))
      → new.exports ≡ shape_exports_from before shape.exports → new ≡ spaces_after_all old (map of_export new.exports) → IsStep c of_export old new new.exports
  exported_step old new before good of_types first stand are known =
      exports_step c old new before f shape.exports first (subst (StandFrom old before) same stand) names_apart
      (λ features on. subst (AllByRecursion (λ type. may_leave features (Some type) ≡ true)) same ((own_rules c old.types shapes good of_types features on).leave)) are known
    where
      f : ℕ → ℕ
      f = λ r. exports_start c (length old.types) + r

      same : asked_items c (length old.types) ≡ moved_types f shape.exports
      same = ap (λ x. moved_types f (exports_in x)) asked
