use Rattle.std.proofs.Common.{◌≡◌, length}
use Rattle.wasm_core_read.specs.ConstantReading.{expression_at}
use Rattle.wasm_core_read.specs.Input.{GoesOn}
use Rattle.wasmparser_readers.specs.Passing.{rest_of}
use Rattle.wasmparser_entries.proofs.const_expr.pass_operators.Given as goal

abbrev pub invariant-loop : goal.invariant-loop
invariant-loop l = record {
  so_far : rest_of (expression_at l.reader.rest) ≡ rest_of (expression_at l.fn.reader.rest);
  goes_on : GoesOn l.fn.reader l.reader;
}

abbrev pub decreases-loop : goal.decreases-loop
decreases-loop l = length l.reader.rest
