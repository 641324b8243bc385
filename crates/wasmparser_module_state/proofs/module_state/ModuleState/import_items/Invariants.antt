use Rattle.std.proofs.Common.{◌≡◌}
use Rattle.wasm_core_read.specs.PartReading.{import_item_at}
use Rattle.wasmparser_names.specs.ImportNames.{module_at}
use Rattle.wasmparser_entries.specs.ImportGroups.{items_of}
use Rattle.wasmparser_readers.specs.ItemTypes.{packed_refs}
use Rattle.wasmparser_module_state.proofs.GroupLaws.{Standing}
use Rattle.wasmparser_module_state.proofs.NamedImports.{NamesStand}
use Rattle.wasmparser_module_state.specs.State.{features_of, unnamed}
use Rattle.wasmparser_module_state.proofs.module_state.ModuleState.import_items.Given as goal

abbrev pub invariant-items : goal.invariant-items
invariant-items l =
    Standing (features_of l.fn.self) import_item_at (λ item. packed_refs item.type) (λ item. item.name) (λ item. item.type) (items_of import_item_at l.fn.group) (unnamed l.fn.self) (unnamed l.self) l.items
    × (l.self.types ≡ l.fn.self.types)
    × (l.self.imported.modules ≡ l.fn.self.imported.modules)
    × NamesStand import_item_at (λ item. item.name) (λ item. item.type) (module_at l.fn.self.imported.modules l.origin) (items_of import_item_at l.fn.group) (unnamed l.fn.self) (unnamed l.self) l.fn.self.imported.imports l.self.imported.imports l.items
