-- Exports of the code as those of the specification.
use Rattle.wasm_spec.specs.Syntax as syntax
use Rattle.wasm_spec.specs.Types as spec
use Rattle.wasmparser_readers.specs.declared.export.Export.{Export}
use Rattle.wasmparser_readers.specs.declared.export.ExternalKind.{ExternalKind}
use Rattle.wasmparser_readers.specs.declared.export.ExternalKind.TheVariants.{Func, Table, Memory, Global, Tag}

abbrev pub external_kind : ExternalKind → spec.ExternalKind
external_kind Func = spec.FuncKind
external_kind Table = spec.TableKind
external_kind Memory = spec.MemoryKind
external_kind Global = spec.GlobalKind
external_kind Tag = spec.TagKind

abbrev pub export_item : Export → syntax.Export
export_item export = record { name = export.name.now; kind = external_kind export.kind; index = export.index }
