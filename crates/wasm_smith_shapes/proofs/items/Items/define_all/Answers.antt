use Rattle.std.proofs.Common.{◌≡◌, ◌∙◌, ◌+◌, ℕ, List, Some, ap, drop, get_or, map, subst, true}
use Rattle.std.proofs.lemmas.List.{drop_more}
use Rattle.wasm_core_types.specs.Features.{feature_set}
use Rattle.wasm_core_types.specs.declared.features.WasmFeatures.{WasmFeatures}
use Rattle.wasm_encoder_sections.specs.CoreItems.{entity_type}
use Rattle.wasm_encoder_sections.specs.declared.entity_type.EntityType.TheVariants.{Function}
use Rattle.wasm_spec.specs.Types.{ExternalType}
use Rattle.wasm_validity.specs.Rules.{may_leave}
use Rattle.wasm_smith_validity.specs.Spaces.{Spaces}
use Rattle.wasm_smith_shapes.specs.Standing.{Stand, keeps_type, may_begin}
use Rattle.wasm_smith_shapes.proofs.ItemWalk.{DefinedLeft, all_three, defined_goes_on}
use Rattle.wasm_smith_shapes.proofs.items.Items.define_all.Goals as goal

pub loop-type_-preserved : goal.loop-type_-preserved
loop-type_-preserved c =
    let f = feature_set c.args.self.now.features in
    let items = c.args.items.now in
    let i = c.loop-type_.type_-index in
    let now = c.loop-type_.self in
    let type = entity_type (get_or items i (Function 0)) in
    let same = c.loop-type_.invariant.features in
    let Keeps : WasmFeatures → Type 0 = λ x. (s : Spaces) → Stand now s → true ≡ keeps_type (feature_set x) s type in
    let Begins : WasmFeatures → Type 0 = λ x. true ≡ may_begin (feature_set x) type in
    let Leaves : WasmFeatures → Type 0 = λ x. true ≡ may_leave (feature_set x) (Some type) in
    let keeps = subst Keeps same c.if-not-keeps_type.ensures in
    record {
      features = c.add.ensures.features ∙ same;
      left = λ spaces stand.
          let Left : List (ExternalType ℕ) → Type 0 = DefinedLeft f now spaces (map entity_type items) in
          let here = subst Left (ap (map entity_type) (drop_more items i (Function 0) c.loop-type_-test.true)) (c.loop-type_.invariant.left spaces stand) in
          defined_goes_on f now c.add.new.self spaces (map entity_type items) type (map entity_type (drop (i + 1) items)) here
          (λ s st. all_three (keeps_type f s type) (may_begin f type) (may_leave f (Some type)) (keeps s st) (subst Begins same c.if-not-may_begin.ensures) (subst Leaves same c.if-not-may_cross.ensures))
          c.add.ensures.own;
    }
