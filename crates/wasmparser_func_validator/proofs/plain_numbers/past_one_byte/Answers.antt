use Rattle.std.proofs.Common.{refl}
use Rattle.wasmparser_func_validator.proofs.PlainNumbers.{signed_front}
use Rattle.wasmparser_func_validator.proofs.plain_numbers.past_one_byte.Goals as goal

pub returns-in-len1-up : goal.returns-in-len1-up
returns-in-len1-up c = signed_front c.args.bits c.args.code.now c.in-len1-up.len_at_least (c.if-ends_signed.ensures refl)
