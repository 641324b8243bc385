use Rattle.wasmparser_func_validator.proofs.PlainNumbers.{float_front}
use Rattle.wasmparser_func_validator.proofs.plain_numbers.past_four.Goals as goal

pub returns-in-len4-up : goal.returns-in-len4-up
returns-in-len4-up c = float_front 4 c.args.code.now c.in-len4-up.len_at_least
