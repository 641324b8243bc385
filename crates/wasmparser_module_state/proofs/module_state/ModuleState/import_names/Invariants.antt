use Rattle.std.proofs.Common.{◌≡◌, []}
use Rattle.wasm_core_read.specs.Reading.{name_at}
use Rattle.wasmparser_names.specs.ImportNames.{module_at}
use Rattle.wasmparser_entries.specs.ImportGroups.{items_of}
use Rattle.wasmparser_module_state.proofs.GroupLaws.{Standing}
use Rattle.wasmparser_module_state.proofs.NamedImports.{NamesStand}
use Rattle.wasmparser_module_state.specs.State.{features_of, item, unnamed}
use Rattle.wasmparser_module_state.proofs.module_state.ModuleState.import_names.Given as goal

abbrev pub invariant-names : goal.invariant-names
invariant-names l =
    Standing (features_of l.fn.self) name_at (λ name. []) (λ name. name) (λ name. item l.ty) (items_of name_at l.fn.group) (unnamed l.fn.self) (unnamed l.self) l.names
    × (l.self.types ≡ l.fn.self.types)
    × (l.self.imported.modules ≡ l.fn.self.imported.modules)
    × NamesStand name_at (λ name. name) (λ name. item l.ty) (module_at l.fn.self.imported.modules l.origin) (items_of name_at l.fn.group) (unnamed l.fn.self) (unnamed l.self) l.fn.self.imported.imports l.self.imported.imports l.names
