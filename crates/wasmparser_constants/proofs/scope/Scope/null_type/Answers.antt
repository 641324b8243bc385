use Rattle.wasmparser_constants.proofs.Meanings.{null_effect}
use Rattle.wasmparser_constants.specs.Scopes.{context, features_of, known}
use Rattle.wasmparser_types.specs.HeapTypes.{heap_type}
use Rattle.wasmparser_constants.proofs.scope.Scope.null_type.Goals as goal

pub returns-clause-same : goal.returns-clause-same
returns-clause-same c =
    null_effect (known c.args.self.now) (features_of c.args.self.now) (context c.args.self.now) (heap_type c.args.heap.now) c.written_null.result c.written_null.ensures.same
