-- Modules that are true to the shapes of their configuration.
use Rattle.std.specs.Prelude.{◌≡◌, ℕ, ◌+◌, true, not, List, [], length, map, Option, Some, None, IfSome, is_some, option_map, if◌then◌else◌}
use Rattle.std.specs.List.{flat_map}
use Rattle.wasm_spec.specs.Syntax.{Export, ImportEntry, imported_by}
use Rattle.wasm_spec.specs.Types.{RecGroup, SubType}
use Rattle.wasm_smith_config.specs.declared.config.Config.{Config}
use Rattle.wasm_smith_definitions.specs.Parts.{IsPart}
use Rattle.wasm_smith_externs.specs.Named.{all_named}
use Rattle.wasm_smith_externs.specs.ShapeExports.{named_in, shape_exports_from}
use Rattle.wasm_smith_externs.specs.ShapeImports.{entry_map, named_map, shape_imports_at, written}
use Rattle.wasm_smith_shapes.specs.Shapes.{NamedItem, ShapeValue}
use Rattle.wasm_smith_types.specs.Bounds.{AreSmall}
use Rattle.wasm_smith_types.specs.DrawnGroups.{AreSome, drawn_groups_at}
use Rattle.wasm_smith_types.specs.Given.{export_shape, for_drawing, import_shape, with_given}
use Rattle.wasm_smith_validity.specs.Made.{Made}
use Rattle.wasm_smith_validity.specs.Spaces.{Spaces, spaces_after_all, spaces_of_types, with_items}
use Rattle.wasm_smith_validity.specs.ValidGroups.{types_of}
use Rattle.wasm_smith_validity.specs.Validity.{made_entries}
use Rattle.wasm_smith_module.specs.Asked.{asked_items, counts_of, imports_start}

-- the index spaces of a made module, which have the imported items too
abbrev pub spaces_of : Made → Spaces
spaces_of m = spaces_after_all (spaces_of_types []) (made_entries m)

-- the index spaces of its imports
abbrev pub imported_of : Made → Spaces
imported_of m = with_items (spaces_of_types (types_of m.groups)) (flat_map imported_by m.imports)

-- ---- types

-- Small groups, none of them empty, and then those of shapes.
pub record HasTypesBeside (c : Config) (groups : List (RecGroup ℕ)) : Type 0 where
  pub drawn : List (RecGroup ℕ)
  pub are : groups ≡ with_given c drawn
  pub small : AreSmall (types_of drawn)
  pub some : AreSome drawn

-- the groups of the shape that has all types, or those of other shapes behind drawn ones
abbrev pub HasTypesOf : Option ShapeValue → Config → List (RecGroup ℕ) → Type 0
HasTypesOf (Some shape) c groups = groups ≡ shape.groups
HasTypesOf None c groups = HasTypesBeside c groups

-- these are the types of such groups
pub record AreTypesOf (c : Config) (types : List (SubType ℕ)) : Type 0 where
  pub groups : List (RecGroup ℕ)
  pub are : types ≡ types_of groups
  pub shaped : HasTypesOf c.module_shape c groups

-- ---- imports and exports

-- a type index of the shape of imports as one of the module
abbrev pub import_index : Config → Made → ℕ → ℕ
import_index c m index = imports_start c (length (types_of m.groups)) + index

-- The imports are some of the shape's entries, in order, or all where the shape has all imports: each as it is written, its types those of the module. So they have
-- the names and types of these entries.
pub record HasImportsOf (c : Config) (m : Made) (shape : ShapeValue) : Type 0 where
  pub chosen : List ImportEntry
  pub part : IsPart chosen shape.imports
  pub all : is_some c.module_shape ≡ true → chosen ≡ shape.imports
  pub entries : m.imports ≡ flat_map (written c.compact_imports_enabled) (map (entry_map (import_index c m)) chosen)
  pub are : all_named m.imports ≡ map (named_map (import_index c m)) (all_named chosen)

-- The exports are the shape's, in order, by name and type, each of an item of its own that the module defines.
pub record HasExportsOf (c : Config) (m : Made) (shape : ShapeValue) : Type 0 where
  pub names : map (λ (export : Export). export.name) m.exports ≡ map (λ (export : NamedItem). export.name) shape.exports
  pub types : named_in (spaces_of m) m.exports ≡ map Some (asked_items c (length (types_of m.groups)))
  pub own : m.exports ≡ shape_exports_from (counts_of (imported_of m)) shape.exports

-- the bytes that are left after the types, where these are drawn so
abbrev pub left_after_types : Config → List ℕ → Option (List ℕ)
left_after_types c s = if is_some c.module_shape then Some s else option_map (λ (drawn : List (RecGroup ℕ) × List ℕ). drawn.1) (drawn_groups_at (for_drawing c) s)

-- The entries of a shape's imports are those that these bytes choose, where they say which they are.
abbrev pub TakesImports : Config → List ℕ → Made → Type 0
TakesImports c s m =
    IfSome (import_shape c) (λ shape. IfSome (left_after_types c s)
    (λ left. m.imports ≡ (shape_imports_at (not (is_some c.module_shape)) c.compact_imports_enabled (import_index c m) shape.imports left).0))

-- ---- a module

pub record IsTrueTo (c : Config) (m : Made) : Type 0 where
  pub types : HasTypesOf c.module_shape c m.groups
  pub imports : IfSome (import_shape c) (HasImportsOf c m)
  pub exports : IfSome (export_shape c) (HasExportsOf c m)
