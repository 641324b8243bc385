use Rattle.std.proofs.Common.{◌≡◌, true, rules}
use Rattle.wasm_spec.specs.Features.{ReferenceTypes, has}
use Rattle.wasm_spec.specs.Types as spec
use Rattle.wasmparser_entries.specs.ConstExprs.{expression_of}
use Rattle.wasmparser_entries.specs.ConstOperators.{const_operator}
use Rattle.wasmparser_constants.proofs.FunctionLaws.{function_alone}
use Rattle.wasmparser_types.specs.ValTypes.{val_type}
use Rattle.wasmparser_constants.proofs.functions.Functions.function_named.Goals as goal

pub returns-in-Some-clause-constant : goal.returns-in-Some-clause-constant
returns-in-Some-clause-constant c cx same same_imported same_own =
    let it = c.args.self.now in
    let heap : c.in_ok-wanted.wanted.heap_type ≡ spec.Abstract spec.Func = search rules in
    let may : has it.types.now.features ReferenceTypes ≡ true = search rules in
    function_alone it.types.now.features cx it.types.now.types it.imported.now it.own.now (val_type c.args.wanted.now) c.in_ok-wanted.wanted (expression_of c.args.expression.now.rest) (const_operator c.in-Some.operator)
    c.function_referred.result same same_imported same_own c.in_ok-wanted.ensures heap may c.in-Some.ensures c.function_referred.ensures.refers c.function_referred.ensures.there
