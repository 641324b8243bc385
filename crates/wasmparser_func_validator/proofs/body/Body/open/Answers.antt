use Rattle.std.proofs.Common.{arith, ◌≡◌, ◌+◌, ◌∙◌, Some, ap, sym, subst, length, map}
use Rattle.std.proofs.lemmas.List.{length-map}
use Rattle.std.proofs.lemmas.Result.{err_from_is_err_and}
use Rattle.wasm_bodies.specs.Operands.{all_taken}
use Rattle.wasmparser_operators.specs.OperatorValues.{block_type}
use Rattle.wasmparser_bodies.specs.StackChanges.{lowered}
use Rattle.wasmparser_bodies.specs.StackViews.{block_with_ids, frame_kind}
use Rattle.wasmparser_types.specs.ValTypes.{val_type}
use Rattle.wasmparser_func_validator.specs.Steps.{body_context}
use Rattle.wasmparser_func_validator.proofs.BlockLaws.{opened, there_is}
use Rattle.wasmparser_func_validator.proofs.body.Body.open.Goals as goal

pub returns-in_err-enter : goal.returns-in_err-enter
returns-in_err-enter g c =
    let p = err_from_is_err_and c.from_residual.result c.from_residual.ensures.1 in
    let cx = body_context g.R.WasmModuleResources.resources c.args.self.now in
    let s = c.args.stacks.now.now in
    let params = map val_type c.block_params-params.result.now in
    let count : 0 + length params ≡ length c.block_params-params.result.now = omega (arith, length-map c.block_params-params.result.now val_type) in
    let took = subst (λ n. all_taken cx.items params s ≡ Some (lowered n s)) count c.if-not-accepts.ensures in
    rw (p.1, p.2) (
      there_is (opened cx (frame_kind c.args.kind) (block_type c.args.blockty.now) (block_with_ids c.in-Some.block_type) c.args.stacks.now.frames s (lowered (length c.block_params-params.result.now) s) params
          c.in-Some.ensures c.block_params-params.ensures took),
      c.in_err-enter.ensures.refused,
    )

pub returns : goal.returns
returns g c =
    let cx = body_context g.R.WasmModuleResources.resources c.args.self.now in
    let s = c.args.stacks.now.now in
    let params = map val_type c.block_params-params.result.now in
    let count : 0 + length params ≡ length c.block_params-params.result.now = omega (arith, length-map c.block_params-params.result.now val_type) in
    let took = subst (λ n. all_taken cx.items params s ≡ Some (lowered n s)) count c.if-not-accepts.ensures in
    opened cx (frame_kind c.args.kind) (block_type c.args.blockty.now) (block_with_ids c.in-Some.block_type) c.args.stacks.now.frames s (lowered (length c.block_params-params.result.now) s) params
    c.in-Some.ensures c.block_params-params.ensures took
    ∙ ap Some (sym c.in_ok-enter.ensures.ok)
