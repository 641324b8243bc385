use Rattle.std.proofs.Common.{refl, rules}
use Rattle.wasm_spec.specs.TypeReferences.{val_map}
use Rattle.wasmparser_entries.specs.ConstExprs.{expression_of}
use Rattle.wasmparser_module_state.proofs.NamedFunctions.{function_there}
use Rattle.wasmparser_module_state.specs.State.{context, features_of}
use Rattle.wasmparser_types.specs.Index.{number_of}
use Rattle.wasmparser_types.specs.ValTypes.{val_type}
use Rattle.wasmparser_module_state.proofs.module_state.ModuleState.function_named.Goals as goal

pub returns-clause-named : goal.returns-clause-named
returns-clause-named c =
    let cx = context c.args.self.now in
    function_there (features_of c.args.self.now) cx (val_map number_of (val_type c.args.ty.now)) (expression_of c.args.expression.now.rest) c.function_named.result c.function_named.ensures.names
    (c.function_named.ensures.constant cx refl (search rules) (search rules))
