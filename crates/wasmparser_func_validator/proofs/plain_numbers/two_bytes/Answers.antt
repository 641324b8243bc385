use Rattle.std.proofs.Common.{◌≡◌, ◌+◌, ◌-◌, ◌*◌, Some, subst, sym, arith}
use Rattle.wasm_core_read.specs.Reading.{unsigned_at}
use Rattle.wasmparser_func_validator.proofs.PlainNumbers.{longer_unsigned, room, unsigned_front}
use Rattle.wasmparser_func_validator.proofs.plain_numbers.two_bytes.Goals as goal

pub returns-in-len1-up-clause-read : goal.returns-in-len1-up-clause-read
returns-in-len1-up-clause-read c = unsigned_front c.args.bits c.from.result c.args.code.now c.in-len1-up.len_at_least c.if-byte-lt128.true (room 7 c.args.bits _ (omega (arith, c.requires)) c.if-byte-lt128.true) c.from.ensures

pub returns-in_ok-high-in-len1-up-2-clause-read : goal.returns-in_ok-high-in-len1-up-2-clause-read
returns-in_ok-high-in-len1-up-2-clause-read c =
    subst (λ n. unsigned_at c.args.bits c.args.code.now ≡ Some (n - 128 + 128 * c.in_ok-high-in-len1-up-2.high, c.in_ok-high-in-len1-up-2.rest.now)) (sym c.from-in-len1-up-2.ensures)
    (longer_unsigned c.args.bits c.in_ok-high-in-len1-up-2.high c.args.code.now c.in_ok-high-in-len1-up-2.rest.now c.in-len1-up.len_at_least (omega (arith, c.if-byte-lt128.false)) (omega (arith, c.requires)) c.in_ok-high-in-len1-up-2.ensures.read)
