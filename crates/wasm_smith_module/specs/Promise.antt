-- Promises on a module that is made, and on refusals.
use Rattle.std.specs.Prelude.{◌≡◌, ◌⊎◌, ⊤, ℕ, ◌+◌, ◌-◌, ◌<◌, ◌≤◌, Bool, true, not, ◌&&◌, ◌||◌, List, length, is_some, if◌then◌else◌}
use Rattle.wasm_spec.specs.Features.{Features}
use Rattle.wasm_smith_config.specs.Config.{AreFeaturesOf, IsGood, IsBadField}
use Rattle.wasm_smith_config.specs.declared.config.Config.{Config}
use Rattle.wasm_smith_unstructured.specs.declared.error.Error.{Error}
use Rattle.wasm_smith_unstructured.specs.declared.error.Error.TheVariants.{IncorrectFormat, EmptyChoose, NotEnoughData, BadConfig, BadShape, TypeSize, Memory, TooLong}
use Rattle.wasm_smith_module.specs.Contents.{contents_size}
use Rattle.wasm_smith_types.specs.Given.{AskForMore, export_shape, import_shape, type_count}
use Rattle.wasm_smith_validity.specs.Made.{Made}
use Rattle.wasm_smith_validity.specs.Validity.{IsValidByIndex}
use Rattle.wasm_smith_module.specs.Asked.{HasGoodShapes, IsBadShape, has_non_null}
use Rattle.wasm_smith_module.specs.Bounds.{IsWithinBounds}
use Rattle.wasm_smith_module.specs.ModuleValue.{ModuleValue}
use Rattle.wasm_smith_module.specs.TrueToShapes.{IsTrueTo}

-- A module made for a good configuration with good shapes is valid under the configuration's features, within its bounds and true to its shapes.
pub record IsMadeFor (c : Config) (m : ModuleValue) : Type 0 where
  pub good : IsGood c
  pub shapes : HasGoodShapes c
  pub config : m.config ≡ c
  pub valid : (features : Features) → AreFeaturesOf c features → IsValidByIndex features m.made
  pub bounds : IsWithinBounds c m.made
  pub true_to_shapes : IsTrueTo c m.made

-- The bytes of data segments, raw bodies and custom sections, and the bytes that are left, are together no more than the bytes that there were.
abbrev pub HasDrawnData : List ℕ → List ℕ → Made → Type 0
HasDrawnData old new m = contents_size m + length new ≤ length old

-- the fewest imports that are asked for: no shape says what they are
abbrev pub least_imports : Config → ℕ
least_imports c = if is_some (import_shape c) then 0 else c.min_imports

-- everything is to be exported, since no shape says what is
abbrev pub exports_everything : Config → Bool
exports_everything c = c.export_everything && not (is_some (export_shape c))

-- the fewest exports that are asked for: neither a shape says what they are, nor is everything exported
abbrev pub least_exports : Config → ℕ
least_exports c = if is_some (export_shape c) || c.export_everything then 0 else c.min_exports

-- how many types are owed beyond those of a shape that has all types
abbrev pub least_types : Config → ℕ
least_types c = if is_some c.module_shape then c.min_types - type_count c.module_shape else 0

-- the minimums of what can't always be made
abbrev pub owed : Config → ℕ
owed c = least_types c + (least_imports c + (c.min_tags + (c.min_funcs + (least_exports c + (c.min_element_segments + c.min_data_segments)))))

-- A minimum asks for items that perhaps can't be made.
pub record IsOwed (c : Config) : Type 0 where
  pub good : IsGood c
  pub shapes : HasGoodShapes c
  pub some : 0 < owed c

-- Everything is to be exported, and the types of imports and exports may be too large together.
pub record ExportsEverything (c : Config) : Type 0 where
  pub good : IsGood c
  pub shapes : HasGoodShapes c
  pub all : exports_everything c ≡ true

-- A shape has a table or a global of references that can't be null, for which there may be no constant.
pub record HasNonNull (c : Config) : Type 0 where
  pub good : IsGood c
  pub shapes : HasGoodShapes c
  pub some : has_non_null c ≡ true

-- A part of the shapes is refused.
pub record RefusesShape (c : Config) (part : List ℕ) : Type 0 where
  pub good : IsGood c
  pub bad : IsBadShape c part

-- Why no module is made.
abbrev pub IsReason : Config → Error → Type 0
IsReason c IncorrectFormat = IsOwed c
IsReason c EmptyChoose = HasNonNull c
IsReason c NotEnoughData = ⊥
IsReason c (BadConfig field) = IsBadField c field.now
IsReason c (BadShape part) = RefusesShape c part.now
IsReason c TypeSize = ExportsEverything c
IsReason c Memory = ⊤
IsReason c TooLong = ⊥

-- Why there are more types than so many.
pub record PassesTypes (c : Config) (s : List ℕ) (most : ℕ) : Type 0 where
  pub good : IsGood c
  pub shapes : HasGoodShapes c
  pub more : AskForMore c s most

-- The error is that a field of the configuration or a part of its shapes is bad.
abbrev pub IsBadConfig : Error → Type 0
IsBadConfig e = ((name : _) × (e ≡ BadConfig name)) ⊎ ((part : _) × (e ≡ BadShape part))
