use Rattle.std.proofs.Common.{◌+◌, drop, refl, arith}
use Rattle.std.proofs.lemmas.List.{drop_all}
use Rattle.wasm_spec.proofs.Places.{get_some}
use Rattle.wasm_smith_validity.specs.Rules.{is_unit}
use Rattle.wasm_smith_validity.specs.Spaces.{functions_of, func_type_at}
use Rattle.wasm_smith_definitions.proofs.IndexLaws.{ended, from_place, one_more}
use Rattle.wasm_smith_externs.proofs.start.start_functions.Goals as goal

pub loop-function-init : goal.loop-function-init
loop-function-init c = rw c.new-functions.ensures.items refl

pub loop-function-preserved : goal.loop-function-preserved
loop-function-preserved c =
    let functions = functions_of c.args.spaces.now in
    let i = c.loop-function.function in
    let at = get_some functions i (omega arith) in
    one_more (λ index. is_unit (func_type_at c.args.spaces.now.types index)) i (i + 1) c.may_start.result at.0 (drop i functions) (drop (i + 1) functions) c.loop-function.functions.items c.push_if.new.indexes.items _
    (from_place functions i at.0 at.1) refl (rw at.1 at c.may_start.ensures) c.in_ok-push_if.ensures c.loop-function.invariant

pub returns : goal.returns
returns c =
    let functions = functions_of c.args.spaces.now in
    ended (λ index. is_unit (func_type_at c.args.spaces.now.types index)) c.loop-function.function (drop c.loop-function.function functions) c.loop-function.functions.items _
    (drop_all c.loop-function.function functions (omega arith)) c.loop-function.invariant
