-- Views and index spaces by their values: index spaces with types in place of their indexes, and views with items as those of the specification.
use Rattle.std.specs.Prelude.{List, map}
use Rattle.std.specs.String.{string_bytes}
use Rattle.wasm_spec.specs.Trees.{DefType, type_at}
use Rattle.wasm_spec.specs.TypeReferences.{global_map, ref_map, table_map}
use Rattle.wasm_spec.specs.Types as spec
use Rattle.wasm_validity.specs.IndexSpaces.{Spaces}
use Rattle.wasm_gen_view.specs.Numbers.{group_types}
use Rattle.wasm_gen_view.specs.Types.{ref_type}
use Rattle.wasm_gen_view.specs.Views.{Named, exports_of, global_type, item_type, memory_type, table_type}
use Rattle.wasm_gen_view.specs.declared.types.TypePlace.{TypePlace}
use Rattle.wasm_gen_view.specs.declared.types.TypeReference.{TypeReference}
use Rattle.wasm_gen_view.specs.declared.view.Export.{Export}
use Rattle.wasm_gen_view.specs.declared.view.View.{View}

-- index spaces over defined types
pub record TreeSpaces : Type 0 where
  pub types : List DefType
  pub functions : List DefType
  pub tables : List (spec.TableType DefType)
  pub memories : List spec.MemoryType
  pub globals : List (spec.GlobalType DefType)
  pub tags : List DefType
  pub elements : List (spec.RefType DefType)
  pub exports : List (Named DefType)

abbrev pub as_trees : Spaces → TreeSpaces
as_trees s = record {
  types = s.types;
  functions = map (type_at s.types) s.functions;
  tables = map (table_map (type_at s.types)) s.tables;
  memories = s.memories;
  globals = map (global_map (type_at s.types)) s.globals;
  tags = map (type_at s.types) s.tags;
  elements = map (ref_map (type_at s.types)) s.elements;
  exports = exports_of s s.exports;
}

-- an export of a view
abbrev pub named_item : Export → Named TypeReference
named_item export = record { name = string_bytes export.name; item = item_type export.item }

-- the values of a view
pub record Viewed : Type 0 where
  pub groups : List (List (spec.SubType TypeReference))
  pub types : List TypePlace
  pub functions : List TypePlace
  pub tables : List (spec.TableType TypeReference)
  pub memories : List spec.MemoryType
  pub globals : List (spec.GlobalType TypeReference)
  pub tags : List TypePlace
  pub elements : List (spec.RefType TypeReference)
  pub exports : List (Named TypeReference)

abbrev pub viewed : View → Viewed
viewed v = record {
  groups = map group_types v.groups.items;
  types = v.types.items;
  functions = v.functions.items;
  tables = map table_type v.tables.items;
  memories = map memory_type v.memories.items;
  globals = map global_type v.globals.items;
  tags = v.tags.items;
  elements = map ref_type v.elements.items;
  exports = map named_item v.exports.items;
}
