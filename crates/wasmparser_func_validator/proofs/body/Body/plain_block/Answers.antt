use Rattle.std.proofs.Common.{◌≡◌, ◌-◌, drop, length, take, Some, sym, subst}
use Rattle.wasmparser_operators.specs.OperatorReading.{All, block_type_at}
use Rattle.wasmparser_operators.specs.OperatorValues.{block_type}
use Rattle.wasmparser_func_validator.specs.Steps.{body_context}
use Rattle.wasmparser_func_validator.proofs.PlainLaws.{block_step}
use Rattle.wasmparser_func_validator.proofs.PlainNumbers.{front_is}
use Rattle.wasmparser_func_validator.proofs.body.Body.plain_block.Goals as goal

pub returns-then-open_plain : goal.returns-then-open_plain
returns-then-open_plain g c =
    let cx = body_context g.R.WasmModuleResources.resources c.args.self.now in
    let bytes = c.args.rest.now in
    let after = take (length c.args.rest.now - 1) (drop 1 c.args.rest.now) in
    let reads : block_type_at All cx.features bytes ≡ Some (block_type c.in_ok-ty.ty, after) =
    subst (λ l. block_type_at All cx.features l ≡ Some (block_type c.in_ok-ty.ty, after)) (sym (front_is bytes c.in-len1-up.len_at_least)) (c.in_ok-ty.ensures.0 cx.features after) in
    block_step cx c.args.stacks.now c.open_plain.new.stacks c.args.code (block_type c.in_ok-ty.ty) bytes after reads c.if-open_plain.ensures
