use Rattle.std.proofs.Common.{◌-◌, drop, length, take, arith}
use Rattle.wasmparser_func_validator.specs.Steps.{body_context}
use Rattle.wasmparser_func_validator.proofs.PlainLaws.{number_step}
use Rattle.wasmparser_func_validator.proofs.PlainNumbers.{room, unsigned_front}
use Rattle.wasmparser_func_validator.proofs.body.Body.quick_number.Goals as goal

pub returns-then-with_small_number : goal.returns-then-with_small_number
returns-then-with_small_number g c =
    let cx = body_context g.R.WasmModuleResources.resources c.args.self.now in
    let bytes = c.args.rest.now in
    number_step cx c.args.stacks.now c.with_small_number.new.stacks c.args.code c.from.result bytes (take (length bytes - 1) (drop 1 bytes))
    (unsigned_front 32 c.from.result bytes c.in-len1-up.len_at_least c.if-byte-lt128.true (room 7 32 _ (omega arith) c.if-byte-lt128.true) c.from.ensures) c.if-with_small_number.ensures
