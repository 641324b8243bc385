use Rattle.std.proofs.Common.{arith}
use Rattle.wasmparser_func_validator.proofs.PlainNumbers.{byte_ends, longer_signed, signed_front}
use Rattle.wasmparser_func_validator.proofs.plain_numbers.past_two_bytes.Goals as goal

pub returns-in-len1-up : goal.returns-in-len1-up
returns-in-len1-up c = signed_front c.args.bits c.args.code.now c.in-len1-up.len_at_least (byte_ends c.args.bits _ (omega (arith, c.requires)) c.if-byte-lt128.true)

pub returns-in_ok-after-in-len1-up-2 : goal.returns-in_ok-after-in-len1-up-2
returns-in_ok-after-in-len1-up-2 c =
    longer_signed c.args.bits c.args.code.now c.in_ok-after-in-len1-up-2.after.now c.in-len1-up.len_at_least (omega (arith, c.if-byte-lt128.false)) (omega (arith, c.requires)) c.in_ok-after-in-len1-up-2.ensures
