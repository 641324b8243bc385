use Rattle.std.proofs.Common.{arith}
use Rattle.wasmparser_func_validator.proofs.PlainNumbers.{room, unsigned_front}
use Rattle.wasmparser_func_validator.proofs.plain_numbers.last_byte.Goals as goal

pub returns-in-len1-up-clause-read : goal.returns-in-len1-up-clause-read
returns-in-len1-up-clause-read c = unsigned_front c.args.bits c.from.result c.args.code.now c.in-len1-up.len_at_least (omega (arith, c.if-byte-lt16.true)) (room 4 c.args.bits _ c.requires c.if-byte-lt16.true) c.from.ensures
