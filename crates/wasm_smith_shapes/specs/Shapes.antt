-- Shapes, as plain lists: groups, entries of imports, and exports with the types of what is exported. A type is its index among the types of the groups.
use Rattle.std.specs.Global.{Global}
use Rattle.std.specs.Prelude.{ℕ, List, map}
use Rattle.std.specs.List.{flat_map}
use Rattle.std.specs.String.{string_bytes}
use Rattle.std.specs.declared.vec.Vec.{Vec}
use Rattle.wasm_core_types.specs.SubTypes.{sub_type}
use Rattle.wasm_core_types.specs.declared.types.SubType as code
use Rattle.wasm_encoder_sections.specs.CoreItems.{entity_type}
use Rattle.wasm_spec.specs.Syntax.{ImportEntry, imported_by}
use Rattle.wasm_spec.specs.Types.{ExternalType, RecGroup, SubType}
use Rattle.wasm_smith_validity.specs.ValidGroups.{entry, types_of}
use Rattle.wasm_smith_shapes.specs.declared.shape.ShapeExport.{ShapeExport}

-- what is exported: its name, and the type of the item
pub record NamedItem : Type 0 where
  pub name : List ℕ
  pub type : ExternalType ℕ

pub record ShapeValue : Type 0 where
  pub groups : List (RecGroup ℕ)
  pub imports : List ImportEntry
  pub exports : List NamedItem

abbrev pub named_item : ShapeExport → NamedItem
named_item export = record { name = string_bytes export.name; type = entity_type export.ty }

-- a group of one type is written as that type alone
abbrev pub group_of : Vec code.SubType Global → RecGroup ℕ
group_of types = entry (map sub_type types.items)

abbrev pub shape_types : ShapeValue → List (SubType ℕ)
shape_types it = types_of it.groups

-- the types of the imports of all entries
abbrev pub imported_items : ShapeValue → List (ExternalType ℕ)
imported_items it = flat_map imported_by it.imports

abbrev pub exported_items : ShapeValue → List (ExternalType ℕ)
exported_items it = map (λ export. export.type) it.exports
