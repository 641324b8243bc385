-- Which shapes modules are made for. A shape is looked at as a module of its groups and imports that defines an item for each export: such a module has to be valid
-- by index but for the constants that tables and globals begin with, which are drawn. Core Specification 3.0, Validation, "Modules".
use Rattle.std.specs.Prelude.{◌≡◌, ◌+◌, ◌≤◌, ⊤, ℕ, Bool, true, ◌&&◌, ◌||◌, bytes_eq, List, [], ◌∷◌, ◌++◌, length, map, Some, codes}
use Rattle.std.specs.List.{IsDistinct, list_all}
use Rattle.wasm_spec.specs.Features.{Features, has, FunctionReferences}
use Rattle.wasm_spec.specs.Types.{ExternalType, FuncExternal, TableExternal, MemoryExternal, GlobalExternal, TagExternal}
use Rattle.wasm_validity.specs.Rules.{may_leave}
use Rattle.wasm_smith_unstructured.specs.declared.error.Error.{Error}
use Rattle.wasm_smith_unstructured.specs.declared.error.Error.TheVariants.{IncorrectFormat, EmptyChoose, NotEnoughData, BadConfig, BadShape, TypeSize, Memory, TooLong}
use Rattle.wasm_smith_validity.specs.Rules.{keep_items, keeps_item, keeps_table}
use Rattle.wasm_smith_validity.specs.Spaces.{Spaces, is_value, spaces_of_types, with_items}
use Rattle.wasm_smith_validity.specs.ValidGroups.{AreValidGroups}
use Rattle.wasm_smith_shapes.specs.Forms.{may_have_entry, may_have_item, may_have_type, most_named}
use Rattle.wasm_smith_shapes.specs.Shapes.{ShapeValue, exported_items, imported_items, shape_types}
use Rattle.wasm_smith_shapes.specs.declared.shape.ShapeUse.{ShapeUse}
use Rattle.wasm_smith_shapes.specs.declared.shape.ShapeUse.TheVariants.{Imports, Exports}

-- ---- items of a module's own, constants aside

-- Elements of a table that can't be null have a constant, which came with such references.
abbrev pub keeps_own : Features → Spaces → ExternalType ℕ → Bool
keeps_own features spaces (TableExternal type) = keeps_table features spaces type && (type.element_type.nullable || has features FunctionReferences)
keeps_own features spaces (GlobalExternal type) = is_value features spaces.types type.value_type
keeps_own features spaces type = keeps_item features spaces type

abbrev pub with_own : Spaces → ExternalType ℕ → Spaces
with_own spaces (FuncExternal function) = record spaces { own_functions = spaces.own_functions ++ function ∷ [] }
with_own spaces (TableExternal type) = record spaces { tables = spaces.tables ++ type ∷ [] }
with_own spaces (MemoryExternal type) = record spaces { memories = spaces.memories ++ type ∷ [] }
with_own spaces (GlobalExternal type) = record spaces { own_globals = spaces.own_globals ++ type ∷ [] }
with_own spaces (TagExternal function) = record spaces { tags = spaces.tags ++ function ∷ [] }

-- each in the spaces before it, and each may be exported
abbrev pub keep_own : Features → Spaces → List (ExternalType ℕ) → Bool
keep_own features spaces [] = true
keep_own features spaces (type ∷ types) =
    (keeps_own features spaces type && may_leave features (Some type)) && keep_own features (with_own spaces type) types

-- ---- the parts of a shape

-- the index spaces that the exports come to
abbrev pub imported_spaces : ShapeValue → Spaces
imported_spaces it = with_items (spaces_of_types (shape_types it)) (imported_items it)

-- A part has no more entries, with those of the parts before it, than there may be in all.
pub record HasGoodGroups (features : Features) (purpose : ShapeUse) (most : ℕ) (it : ShapeValue) : Type 0 where
  pub few : length (shape_types it) ≤ most
  pub valid : AreValidGroups features it.groups
  pub forms : list_all (may_have_type purpose) (shape_types it) ≡ true

-- A shape of exports has no imports.
pub record HasGoodImports (features : Features) (purpose : ShapeUse) (most : ℕ) (it : ShapeValue) : Type 0 where
  pub none : purpose ≡ Exports → it.imports ≡ []
  pub few : length (shape_types it) + length (imported_items it) ≤ most
  pub forms : list_all (may_have_entry (most_named purpose)) it.imports ≡ true
  pub kept : keep_items features (spaces_of_types (shape_types it)) (imported_items it) ≡ true

-- A shape of imports has no exports.
pub record HasGoodExports (features : Features) (purpose : ShapeUse) (most : ℕ) (it : ShapeValue) : Type 0 where
  pub none : purpose ≡ Imports → it.exports ≡ []
  pub few : length (shape_types it) + length (imported_items it) + length it.exports ≤ most
  pub forms : list_all (may_have_item (most_named purpose)) (exported_items it) ≡ true
  pub kept : keep_own features (imported_spaces it) (exported_items it) ≡ true
  pub distinct : IsDistinct bytes_eq (map (λ export. export.name) it.exports)

-- A shape of at most so many entries: types, imports and exports.
pub record IsGoodShape (features : Features) (purpose : ShapeUse) (most : ℕ) (it : ShapeValue) : Type 0 where
  pub groups : HasGoodGroups features purpose most it
  pub imports : HasGoodImports features purpose most it
  pub exports : HasGoodExports features purpose most it

-- ---- refusals

-- the first part that isn't good
pub data IsBadPart (features : Features) (purpose : ShapeUse) (most : ℕ) (it : ShapeValue) : List ℕ → Type 0 where
  bad_groups : ¬ (HasGoodGroups features purpose most it) → IsBadPart features purpose most it (codes "groups")
  bad_imports : HasGoodGroups features purpose most it → ¬ (HasGoodImports features purpose most it) → IsBadPart features purpose most it (codes "imports")
  bad_exports : HasGoodGroups features purpose most it → HasGoodImports features purpose most it → ¬ (HasGoodExports features purpose most it)
      → IsBadPart features purpose most it (codes "exports")

-- a part is named, which is bad for this reason, or memory ran out
abbrev pub IsPartReason : List ℕ → Type 0 → Error → Type 0
IsPartReason part Bad (BadShape named) = (named.now ≡ part) × Bad
IsPartReason part Bad Memory = ⊤
IsPartReason part Bad IncorrectFormat = ⊥
IsPartReason part Bad EmptyChoose = ⊥
IsPartReason part Bad NotEnoughData = ⊥
IsPartReason part Bad (BadConfig field) = ⊥
IsPartReason part Bad TypeSize = ⊥
IsPartReason part Bad TooLong = ⊥

-- why a shape is refused: its first bad part, or memory ran out
abbrev pub IsShapeReason : Features → ShapeUse → ℕ → ShapeValue → Error → Type 0
IsShapeReason features purpose most it (BadShape part) = IsBadPart features purpose most it part.now
IsShapeReason features purpose most it Memory = ⊤
IsShapeReason features purpose most it IncorrectFormat = ⊥
IsShapeReason features purpose most it EmptyChoose = ⊥
IsShapeReason features purpose most it NotEnoughData = ⊥
IsShapeReason features purpose most it (BadConfig field) = ⊥
IsShapeReason features purpose most it TypeSize = ⊥
IsShapeReason features purpose most it TooLong = ⊥
