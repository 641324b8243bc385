use Rattle.std.proofs.Common.{ap, length, arith}
use Rattle.wasmparser_entries.proofs.EntryLaws.{none_there, one_there}
use Rattle.wasmparser_entries.proofs.imports.skip_code.Goals as goal

pub returns-in_err-read_u8 : goal.returns-in_err-read_u8
returns-in_err-read_u8 c =
    let empty = none_there _ c.in_err-read_u8.ensures.exact.0 in
    absurd (omega (arith, empty, c.in-0.len_at_least, ap length c.remaining_buffer.ensures.bytes))

pub returns-in_err-read_u8-2 : goal.returns-in_err-read_u8-2
returns-in_err-read_u8-2 c =
    let one = one_there _ _ _ c.in_ok-read_u8.ensures.exact.0 in
    let empty = none_there _ c.in_err-read_u8-2.ensures.exact.0 in
    absurd (omega (arith, one, empty, c.in-0.len_at_least, ap length c.remaining_buffer.ensures.bytes))
