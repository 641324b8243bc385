use Rattle.std.proofs.Common.{◌≡◌, ◌-◌, ◌∷◌, Some, drop, length, take, sym, subst}
use Rattle.wasm_bodies.specs.Operators.{Empty}
use Rattle.wasmparser_operators.specs.OperatorReading.{All, block_type_at}
use Rattle.wasmparser_func_validator.specs.Steps.{body_context}
use Rattle.wasmparser_func_validator.proofs.EmptyBlocks.{empty_reads}
use Rattle.wasmparser_func_validator.proofs.PlainLaws.{block_step}
use Rattle.wasmparser_func_validator.proofs.PlainNumbers.{front_is}
use Rattle.wasmparser_func_validator.proofs.body.Body.quick_block.Goals as goal

pub returns-then-open_empty : goal.returns-then-open_empty
returns-then-open_empty g c =
    let cx = body_context g.R.WasmModuleResources.resources c.args.self.now in
    let bytes = c.args.rest.now in
    let after = take (length c.args.rest.now - 1) (drop 1 c.args.rest.now) in
    let reads : block_type_at All cx.features bytes ≡ Some (Empty, after) =
    subst (λ l. block_type_at All cx.features l ≡ Some (Empty, after)) (sym (front_is bytes c.in-len1-up.len_at_least))
    (subst (λ b. block_type_at All cx.features (b ∷ after) ≡ Some (Empty, after)) (sym c.if-byte-eq64.true) (empty_reads cx.features after)) in
    block_step cx c.args.stacks.now c.open_empty.new.stacks c.args.code Empty bytes after reads c.if-open_empty.ensures
