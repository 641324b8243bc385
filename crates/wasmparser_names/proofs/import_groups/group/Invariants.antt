use Rattle.std.proofs.Common.{◌≡◌, [], drop}
use Rattle.wasm_validity.specs.ImportedItems.{with_imports}
use Rattle.wasmparser_names.specs.KeptImports.{AreOfModules, kept_imports}
use Rattle.wasmparser_names.proofs.import_groups.group.Given as goal

abbrev pub invariant-loop-import : goal.invariant-loop-import
invariant-loop-import l = record {
  modules : l.groups.modules ≡ l.modules.names;
  known : AreOfModules l.modules.names (drop l.import-index l.imports);
  grouped : with_imports l.groups.imports (kept_imports l.modules.names (drop l.import-index l.imports)) ≡ with_imports [] (kept_imports l.modules.names l.imports);
}
