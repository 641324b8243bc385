use Rattle.wasmparser_func_validator.proofs.PlainNumbers.{float_front}
use Rattle.wasmparser_func_validator.proofs.plain_numbers.past_eight.Goals as goal

pub returns-in-len8-up : goal.returns-in-len8-up
returns-in-len8-up c = float_front 8 c.args.code.now c.in-len8-up.len_at_least
