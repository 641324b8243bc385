use Rattle.std.proofs.Common.{map}
use Rattle.wasm_core_types.specs.SubTypes.{sub_type}
use Rattle.wasm_encoder_sections.specs.CoreItems.{memory_type}
use Rattle.wasm_encoder_sections.specs.SmallItems.{IsSmallExport, IsSmallLimits}
use Rattle.wasm_smith_definitions.specs.Items.{data_segment, element_segment, export, global, made_body, placed_custom, table}
use Rattle.wasm_smith_sections.specs.SmallModules.{IsSmallBody, IsSmallCustom, IsSmallData, IsSmallElement, IsSmallOwnGlobal, IsSmallOwnTable}
use Rattle.wasm_smith_sections.proofs.SmallItems.{readable_imports, seen, small_groups, small_option}
use Rattle.wasm_smith_sections.proofs.small_module_items.items_are_small.Goals as goal
use Rattle.wasm_spec.specs.SmallIndexes.{IsSmallSub}

pub returns : goal.returns
returns c = λ compact readable.
    let made = c.args.made.now in
    record {
      groups = small_groups made.sizes.now (map sub_type made.types.now) (seen IsSmallSub sub_type made.types.now c.are_small.ensures);
      imports = readable_imports compact made.imports.now c.are_small-2.ensures readable;
      funcs = c.indexes_are_small.ensures;
      tables = seen IsSmallOwnTable table made.tables.now c.are_small-3.ensures;
      memories = seen IsSmallLimits memory_type made.memories.now c.are_small-4.ensures;
      tags = c.indexes_are_small-2.ensures;
      globals = seen IsSmallOwnGlobal global made.globals.now c.are_small-5.ensures;
      exports = seen IsSmallExport export made.exports.now c.are_small-6.ensures;
      start = small_option made.start c.narrow_is_small.ensures;
      elems = seen IsSmallElement element_segment made.elems.now c.are_small-7.ensures;
      data_segments = seen IsSmallData data_segment made.data_segments.now c.are_small-8.ensures;
      bodies = seen IsSmallBody made_body made.bodies.now c.are_small-9.ensures;
      customs = seen IsSmallCustom placed_custom made.customs.now c.are_small-10.ensures;
    }
