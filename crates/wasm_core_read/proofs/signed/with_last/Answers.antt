use Rattle.std.proofs.Common.{◌-◌, ◌^◌, arith}
use Rattle.std.proofs.lemmas.Int.{ints}
use Rattle.wasm_core_read.specs.Reading.{above}
use Rattle.wasm_core_read.proofs.SignedLaws.{low_refused, high_refused, shifted, unit, low_value, high_value}
use Rattle.wasm_core_read.proofs.signed.with_last.Goals as goal

pub returns-then-not-has_bits : goal.returns-then-not-has_bits
returns-then-not-has_bits c = low_refused (above c.args.low (2 ^ c.args.shift)) c.args.bits c.args.byte c.if-byte-lt64.true (cc)

pub overflow_add-result : goal.overflow_add-result
overflow_add-result c =
    let s = shifted c.args.low c.args.byte c.args.shift c.args.bits c.requires.is_low c.requires.some_bits c.requires.at_most_64 (cc) in
    rw (c.from.ensures, s.0) (omega (arith, s.1))

pub overflow_cast-result-then-byte-lt64 : goal.overflow_cast-result-then-byte-lt64
overflow_cast-result-then-byte-lt64 c =
    let s = shifted c.args.low c.args.byte c.args.shift c.args.bits c.requires.is_low c.requires.some_bits c.requires.at_most_64 (cc) in
    rw (c.from.ensures, s.0) (omega (arith, ints, s.1))

pub returns-then-byte-lt64 : goal.returns-then-byte-lt64
returns-then-byte-lt64 c =
    rw c.from.ensures (low_value c.args.low c.args.shift c.args.bits c.args.byte c.requires.is_low c.requires.some_bits c.requires.at_most_64 c.if-byte-lt64.true (cc))

pub returns-then-not-has_bits-2 : goal.returns-then-not-has_bits-2
returns-then-not-has_bits-2 c = high_refused (above c.args.low (2 ^ c.args.shift)) c.args.bits c.args.byte c.if-byte-lt64.false (cc)

pub overflow_add-complement : goal.overflow_add-complement
overflow_add-complement c =
    let s = shifted (2 ^ c.args.shift - 1 - c.args.low) (127 - c.args.byte) c.args.shift c.args.bits (omega (arith, c.requires.is_low)) c.requires.some_bits c.requires.at_most_64 (cc) in
    rw (c.from-2.ensures, s.0, unit c.args.shift c.args.bits c.requires.some_bits c.requires.at_most_64) (omega (arith, s.1))

pub overflow_cast-result-2 : goal.overflow_cast-result-2
overflow_cast-result-2 c =
    let s = shifted (2 ^ c.args.shift - 1 - c.args.low) (127 - c.args.byte) c.args.shift c.args.bits (omega (arith, c.requires.is_low)) c.requires.some_bits c.requires.at_most_64 (cc) in
    rw (c.from-2.ensures, s.0, unit c.args.shift c.args.bits c.requires.some_bits c.requires.at_most_64) (omega (arith, ints, s.1))

pub returns : goal.returns
returns c =
    rw c.from-2.ensures (high_value c.args.low c.args.shift c.args.bits c.args.byte c.requires.is_low c.requires.some_bits c.requires.at_most_64 c.if-byte-lt64.false (cc))
