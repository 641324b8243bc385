-- The items that are drawn after the types.
use Rattle.std.specs.Prelude.{ℕ, List, Option, map}
use Rattle.wasm_encoder_sections.specs.CoreItems.{memory_type}
use Rattle.wasm_spec.specs.Syntax.{ImportEntry, Table, Global, Export, ElementSegment, DataSegment}
use Rattle.wasm_spec.specs.Types.{MemoryType, RecGroup}
use Rattle.wasm_smith_definitions.specs.Items.{table, global, export, element_segment, data_segment}
use Rattle.wasm_smith_shapes.specs.Imports.{import_entry}
use Rattle.wasm_smith_validity.specs.Made.{Made, MadeBody, PlacedCustom}
use Rattle.wasm_smith_module.specs.declared.items.Items.{Items}

pub record DrawnItems : Type 0 where
  pub imports : List ImportEntry
  pub funcs : List ℕ
  pub tables : List Table
  pub memories : List MemoryType
  pub tags : List ℕ
  pub globals : List Global
  pub exports : List Export
  pub start : Option ℕ
  pub elems : List ElementSegment
  pub data_segments : List DataSegment

-- those of the code
abbrev pub drawn_items : Items → DrawnItems
drawn_items items = record {
  imports = map import_entry items.front.imports.items;
  funcs = items.front.funcs.items;
  tables = map table items.definitions.tables.items;
  memories = map memory_type items.definitions.memories.items;
  tags = items.front.tags.items;
  globals = map global items.definitions.globals.items;
  exports = map export items.exports.items;
  start = items.uses.start;
  elems = map element_segment items.uses.elems.items;
  data_segments = map data_segment items.uses.data_segments.items;
}

-- those of a made module
abbrev pub items_of : Made → DrawnItems
items_of m = record {
  imports = m.imports;
  funcs = m.funcs;
  tables = m.tables;
  memories = m.memories;
  tags = m.tags;
  globals = m.globals;
  exports = m.exports;
  start = m.start;
  elems = m.elems;
  data_segments = m.data_segments;
}

-- the module that has these items, bodies and custom sections
abbrev pub module_of : List (RecGroup ℕ) → DrawnItems → List MadeBody → List PlacedCustom → Made
module_of groups items bodies customs = record {
  groups = groups;
  imports = items.imports;
  funcs = items.funcs;
  tables = items.tables;
  memories = items.memories;
  tags = items.tags;
  globals = items.globals;
  exports = items.exports;
  start = items.start;
  elems = items.elems;
  data_segments = items.data_segments;
  bodies = bodies;
  customs = customs;
}
