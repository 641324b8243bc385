use Rattle.std.proofs.Common.{arith}
use Rattle.std.proofs.lemmas.Bool.{leb-true}
use Rattle.wasmparser_func_validator.proofs.PlainNumbers.{byte_ends, few_end, last_end}
use Rattle.wasmparser_func_validator.proofs.plain_numbers.ends_signed.Goals as goal

pub returns-then-byte-lt8 : goal.returns-then-byte-lt8
returns-then-byte-lt8 c e = few_end c.args.bits c.args.byte c.requires c.if-byte-lt8.true

pub returns-then-byte-ge120 : goal.returns-then-byte-ge120
returns-then-byte-ge120 c e = last_end c.args.bits c.args.byte c.requires c.if-byte-ge120.true (omega (arith, c.if-byte-ge128.false))

pub returns-else-byte-ge120 : goal.returns-else-byte-ge120
returns-else-byte-ge120 c e = byte_ends c.args.bits c.args.byte (leb-true 7 c.args.bits e) (omega (arith, c.if-byte-ge128.false))
