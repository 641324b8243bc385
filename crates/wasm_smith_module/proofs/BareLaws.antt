-- Configurations without shapes: the module has no items of its own that are asked for, the bounds on imports are the configuration's, and nothing is refused.
use Rattle.std.proofs.Common.{◌≡◌, ℕ, ◌+◌, ◌-◌, Bool, true, false, List, [], length, Option, Some, None, refl, ap, ◌∙◌, inl, inr, arith}
use Rattle.std.specs.Prelude.{◌||◌, is_some}
use Rattle.wasm_spec.specs.Types.{SubType}
use Rattle.wasm_smith_config.specs.declared.config.Config.{Config}
use Rattle.wasm_smith_definitions.specs.OwnItems.{own_items}
use Rattle.wasm_smith_externs.specs.Bounds.{beside}
use Rattle.wasm_smith_externs.specs.ShapeExports.{moved_types}
use Rattle.wasm_smith_shapes.specs.Shapes.{ShapeValue}
use Rattle.wasm_smith_shapes.specs.declared.shape.ShapeUse.{ShapeUse}
use Rattle.wasm_smith_shapes.specs.declared.shape.ShapeUse.TheVariants.{Module, Imports, Exports}
use Rattle.wasm_smith_types.specs.Given.{export_shape, import_shape, or_else}
use Rattle.wasm_smith_module.specs.Asked.{GoTogether, IsBadFor, IsBadShape, exports_in, exports_start, has_non_null, import_bounds, own_of}
use Rattle.wasm_smith_module.specs.Generating.{has_shape}

pub record HasNoShapes (c : Config) : Type 0 where
  pub module_shape : c.module_shape ≡ None
  pub available_imports : c.available_imports ≡ None
  pub exports : c.exports ≡ None

neither : (a b : Bool) → (a || b) ≡ false → (a ≡ false) × (b ≡ false)
neither false b e = (refl, e)
neither true b e = absurd cc

is_none : {A : Type 0} (o : Option A) → is_some o ≡ false → o ≡ None
is_none None e = refl
is_none (Some x) e = absurd cc

pub has_no_shapes : (c : Config) → has_shape c ≡ false → HasNoShapes c
has_no_shapes c e =
    let parts = neither (is_some c.module_shape) (is_some c.available_imports || is_some c.exports) e in
    let others = neither (is_some c.available_imports) (is_some c.exports) parts.1 in
    record { module_shape = is_none c.module_shape parts.0; available_imports = is_none c.available_imports others.0; exports = is_none c.exports others.1 }

module _ (c : Config) (none : HasNoShapes c) where
  pub no_import_shape : import_shape c ≡ None
  no_import_shape = ap (λ shape. or_else shape c.available_imports) none.module_shape ∙ none.available_imports

  pub no_export_shape : export_shape c ≡ None
  no_export_shape = ap (λ shape. or_else shape c.exports) none.module_shape ∙ none.exports

  -- ---- items of the module's own

  pub no_own_items : (types : List (SubType ℕ)) → own_of c types ≡ own_items []
  no_own_items types =
      ap (λ (shape : Option ShapeValue). own_items (moved_types (λ index. exports_start c (length types) + index) (exports_in shape))) no_export_shape

  pub bare_bounds : (types : List (SubType ℕ)) → import_bounds c types
      ≡ record { functions = c.max_funcs; tables = c.max_tables; memories = c.max_memories; globals = c.max_globals; tags = c.max_tags; type_size = c.max_type_size }
  bare_bounds types = ap (beside c types) (no_own_items types) ∙ rw (all_of c.max_funcs, all_of c.max_tables, all_of c.max_memories, all_of c.max_globals, all_of c.max_tags, all_of c.max_type_size) refl
    where
      all_of : (n : ℕ) → n - 0 ≡ n
      all_of n = omega arith

  -- ---- refusals

  pub all_nullable : has_non_null c ≡ false
  all_nullable = rw (none.module_shape, none.available_imports, none.exports) refl

  pub not_refused : (part : List ℕ) → IsBadShape c part → ⊥
  not_refused part bad =
      elim bad [
        | inl whole ↦ not_bad Module c.module_shape none.module_shape whole
        | inr others ↦
            elim others [
              | inl imports ↦ not_bad Imports c.available_imports none.available_imports imports
              | inr after ↦
                  elim after [
                    | inl exports ↦ not_bad Exports c.exports none.exports exports
                    | inr together ↦ together.1.apart go_together
                  ]
            ]
      ]
    where
      not_bad : (purpose : ShapeUse) (shape : Option ShapeValue) → shape ≡ None → IsBadFor c purpose shape part → ⊥
      not_bad purpose None e h = h
      not_bad purpose (Some shape) e h = absurd cc

      go_together : GoTogether c
      go_together = record {
        tables = λ features f off. rw (none.available_imports, none.exports) (omega arith);
        memories = λ features f off. rw (none.available_imports, none.exports) (omega arith);
      }
