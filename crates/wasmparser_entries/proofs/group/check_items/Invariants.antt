use Rattle.std.proofs.Common.{◌≡◌, ◌-◌, true}
use Rattle.wasm_core_read.specs.Input.{GoesOn}
use Rattle.wasm_core_read.specs.PartReading.{import_item_at}
use Rattle.wasm_core_read.specs.TypeReading.{items_at, list_at}
use Rattle.wasmparser_entries.proofs.CheckLaws.{checked}
use Rattle.wasmparser_entries.proofs.group.check_items.Given as goal

abbrev pub invariant-loop : goal.invariant-loop
invariant-loop l = record {
  told : checked l.are_packable (items_at import_item_at (l.count - l.counter) l.reader.rest) ≡ checked true (list_at import_item_at l.fn.reader.rest);
  goes_on : GoesOn l.fn.reader l.reader;
}
