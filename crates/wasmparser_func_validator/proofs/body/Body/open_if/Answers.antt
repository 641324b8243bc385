use Rattle.std.proofs.Common.{◌+◌, ◌∙◌, Some, ap, sym, length, map}
use Rattle.std.proofs.lemmas.Result.{err_from_is_err_and}
use Rattle.wasm_bodies.specs.Operands.{taken}
use Rattle.wasm_bodies_laws.specs.Machine.{IfFrame}
use Rattle.wasm_spec.specs.Types.{I32}
use Rattle.wasmparser_operators.specs.OperatorValues.{block_type}
use Rattle.wasmparser_bodies.specs.StackChanges.{lowered}
use Rattle.wasmparser_bodies.specs.StackViews.{block_with_ids}
use Rattle.wasmparser_types.specs.ValTypes.{val_type}
use Rattle.wasmparser_func_validator.specs.Steps.{body_context}
use Rattle.wasmparser_func_validator.proofs.BlockLaws.{opened_after, there_is}
use Rattle.wasmparser_func_validator.proofs.Taking.{all_taken-more}
use Rattle.wasmparser_func_validator.proofs.body.Body.open_if.Goals as goal

pub returns-in_err-enter : goal.returns-in_err-enter
returns-in_err-enter g c =
    let p = err_from_is_err_and c.from_residual.result c.from_residual.ensures.1 in
    let cx = body_context g.R.WasmModuleResources.resources c.args.self.now in
    let s = c.args.stacks.now.now in
    let params = map val_type c.block_params-params.result.now in
    rw (p.1, p.2) (
      there_is (opened_after cx IfFrame (block_type c.args.blockty.now) (block_with_ids c.in-Some.block_type) c.args.stacks.now.frames (taken cx.items I32 s) (lowered (length c.block_params-params.result.now + 1) s) params
          c.in-Some.ensures c.block_params-params.ensures (sym (all_taken-more cx.items params I32 s) ∙ c.if-not-accepts_with_last.ensures)),
      c.in_err-enter.ensures.refused,
    )

pub returns : goal.returns
returns g c =
    let cx = body_context g.R.WasmModuleResources.resources c.args.self.now in
    let s = c.args.stacks.now.now in
    let params = map val_type c.block_params-params.result.now in
    opened_after cx IfFrame (block_type c.args.blockty.now) (block_with_ids c.in-Some.block_type) c.args.stacks.now.frames (taken cx.items I32 s) (lowered (length c.block_params-params.result.now + 1) s) params
    c.in-Some.ensures c.block_params-params.ensures (sym (all_taken-more cx.items params I32 s) ∙ c.if-not-accepts_with_last.ensures)
    ∙ ap Some (sym c.in_ok-enter.ensures.ok)
