use Rattle.std.proofs.Common.{◌≡◌, ◌-◌, drop, length, take, Some, sym, subst, arith}
use Rattle.std.specs.Prelude.{slice_index_or}
use Rattle.wasm_core_types.specs.Features.{feature_set}
use Rattle.wasm_core_read.specs.Reading.{unsigned_at}
use Rattle.wasmparser_operators.specs.OperatorReading.{memory_argument_at, offset_bits}
use Rattle.wasmparser_func_validator.proofs.PlainNumbers.{front_is, memory_reads}
use Rattle.wasmparser_func_validator.proofs.body.Body.memarg.Goals as goal

pub returns : goal.returns
returns g c =
    let features = feature_set c.args.self.now.features in
    let bytes = c.args.code.now in
    let rest = take (length c.args.code.now - 1) (drop 1 c.args.code.now) in
    let offset : unsigned_at (offset_bits (feature_set c.args.self.now.features)) (take (length c.args.code.now - 1) (drop 1 c.args.code.now)) ≡ Some (c.from.result, c.in_ok-offset.rest.now) =
    rw (c.offset_bits.ensures, ← c.from.ensures) at c.in_ok-offset.ensures.read in
    subst (λ l. memory_argument_at features l ≡ Some (record { exponent = slice_index_or bytes 0 0; memory = 0; offset = c.from.result }, c.in_ok-offset.rest.now)) (sym (front_is bytes c.in-len1-up.len_at_least))
    (memory_reads features (slice_index_or bytes 0 0) c.from.result rest c.in_ok-offset.rest.now (omega (arith, c.if-align-ge64.false)) offset)
