use Rattle.wasm_spec.specs.TypeReferences.{val_map}
use Rattle.wasmparser_constants.proofs.Meanings.{meant_is}
use Rattle.wasmparser_constants.specs.Scopes.{context, known}
use Rattle.wasmparser_types.specs.Index.{number_of}
use Rattle.wasmparser_types.specs.ValTypes.{val_type}
use Rattle.wasmparser_constants.proofs.scope.Scope.by_ids.Goals as goal

pub returns-clause-same : goal.returns-clause-same
returns-clause-same c =
    meant_is (known c.args.self.now) (context c.args.self.now) (val_map number_of (val_type c.args.ty.now)) c.with_ids.result c.with_ids.ensures.named c.with_ids.ensures.same
