use Rattle.std.proofs.Common.{rules, []}
use Rattle.wasm_spec.specs.TypeReferences.{val_map}
use Rattle.wasmparser_entries.specs.ConstExprs.{expression_of}
use Rattle.wasmparser_module_state.proofs.NamedFunctions.{begins_there, named_there}
use Rattle.wasmparser_module_state.specs.State.{context, features_of}
use Rattle.wasmparser_types.specs.Index.{number_of}
use Rattle.wasmparser_types.specs.ValTypes.{val_type}
use Rattle.wasmparser_module_state.proofs.module_state.ModuleState.check_table_initialiser.Goals as goal

pub returns-clause-named : goal.returns-clause-named
returns-clause-named c =
    named_there (features_of c.args.self.now) (record (context c.args.self.now) { own_globals = [] }) (val_map number_of (val_type c.args.ty.now)) (expression_of c.args.expression.now.rest) c.args.offset c.check_initialiser.result (search rules)

pub returns-clause-begins : goal.returns-clause-begins
returns-clause-begins c =
    begins_there (features_of c.args.self.now) (record (context c.args.self.now) { own_globals = [] }) (val_map number_of (val_type c.args.ty.now)) (expression_of c.args.expression.now.rest) c.args.offset c.check_initialiser.result (search rules)
