use Rattle.std.proofs.Common.{◌≡◌, ◌≤◌, ◌+◌, ◌-◌}
use Rattle.wasm_core_read.specs.Input.{GoesOn}
use Rattle.wasm_core_read.specs.TypeReading.{items_at, list_at}
use Rattle.wasm_gen_explain.proofs.CountLaws.{counting}
use Rattle.wasm_gen_explain.proofs.imported.read_list.Given as goal

abbrev pub invariant-loop : goal.invariant-loop
invariant-loop g l = record {
  so_far : counting g.T.Counted.functions l.functions (items_at (g.T.Counted.form_at l.fn.reader.features) (l.count - l.counter) l.reader.rest) ≡ counting g.T.Counted.functions 0 (list_at (g.T.Counted.form_at l.fn.reader.features) l.fn.reader.rest);
  goes_on : GoesOn l.fn.reader l.reader;
  few : l.fn.reader.position + l.functions ≤ l.reader.position;
}
