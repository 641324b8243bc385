use Rattle.std.proofs.Common.{◌≡◌, ◌++◌, drop}
use Rattle.std.specs.List.{range_with_len}
use Rattle.wasm_gen_view.specs.TypeNumbers.{places_from}
use Rattle.wasm_gen_view.proofs.type_numbers.push_places.Given as goal

abbrev pub invariant-loop-place : goal.invariant-loop-place
invariant-loop-place l = record {
  kept : l.places.items ++ places_from l.group l.place (drop l.place (range_with_len 0 l.count)) ≡ l.fn.places.items ++ places_from l.group 0 (range_with_len 0 l.count);
}
