use Rattle.std.proofs.Common.{◌≡◌, ◌-◌}
use Rattle.wasm_core_read.specs.Input.{GoesOn}
use Rattle.wasm_core_read.specs.TypeReading.{items_at, list_at}
use Rattle.wasmparser_readers.specs.Passing.{rest_of}
use Rattle.wasmparser_readers.proofs.passing.pass_list.Given as goal

abbrev pub invariant-loop : goal.invariant-loop
invariant-loop g l = record {
  so_far : rest_of (items_at g.T.Pass.passed_at (l.count - l.counter) l.reader.rest) ≡ rest_of (list_at g.T.Pass.passed_at l.fn.reader.rest);
  goes_on : GoesOn l.fn.reader l.reader;
}
