-- The items of a module that is to be written, as those of a made module.
use Rattle.std.specs.Prelude.{map}
use Rattle.wasm_core_types.specs.SubTypes.{sub_type}
use Rattle.wasm_encoder_sections.specs.CoreItems.{memory_type}
use Rattle.wasm_smith_definitions.specs.Items.{table, global, export, element_segment, data_segment, made_body, placed_custom}
use Rattle.wasm_smith_shapes.specs.Imports.{import_entry}
use Rattle.wasm_smith_sections.specs.declared.module_items.ModuleItems.{ModuleItems}
use Rattle.wasm_smith_types.specs.Grouped.{grouped}
use Rattle.wasm_smith_validity.specs.Made.{Made}

abbrev pub made_of : ModuleItems → Made
made_of it = record {
  groups = grouped it.sizes.now (map sub_type it.types.now);
  imports = map import_entry it.imports.now;
  funcs = it.funcs.now;
  tables = map table it.tables.now;
  memories = map memory_type it.memories.now;
  tags = it.tags.now;
  globals = map global it.globals.now;
  exports = map export it.exports.now;
  start = it.start;
  elems = map element_segment it.elems.now;
  data_segments = map data_segment it.data_segments.now;
  bodies = map made_body it.bodies.now;
  customs = map placed_custom it.customs.now;
}
