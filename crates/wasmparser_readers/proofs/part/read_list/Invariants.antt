use Rattle.std.proofs.Common.{◌≡◌, ◌-◌, map}
use Rattle.wasm_core_read.proofs.ReadingLaws.{with_front}
use Rattle.wasm_core_read.specs.Input.{GoesOn}
use Rattle.wasm_core_read.specs.TypeReading.{items_at, list_at}
use Rattle.wasmparser_readers.proofs.part.read_list.Given as goal

abbrev pub invariant-loop : goal.invariant-loop
invariant-loop g l = record {
  so_far : with_front (map g.T.Part.meaning l.items.items) (items_at g.T.Part.part_at (l.count - l.counter) l.reader.rest) ≡ list_at g.T.Part.part_at l.fn.reader.rest;
  goes_on : GoesOn l.fn.reader l.reader;
}
