use Rattle.std.proofs.Common.{◌+◌, ◌-◌, ◌≤◌, length}
use Rattle.wasm_smith_unstructured.specs.Names.{is_name, names_in}
use Rattle.wasm_smith_unstructured.specs.Texts.{AreTaken}
use Rattle.wasm_smith_unstructured.proofs.names.new_number.Given as goal

abbrev pub invariant-number : goal.invariant-number
invariant-number l = record {
  from : length (names_in l.numbers) ≤ l.number;
  taken : AreTaken (is_name (names_in l.numbers)) (length (names_in l.numbers)) l.text l.number;
}

abbrev pub decreases-number : goal.decreases-number
decreases-number l = length (names_in l.numbers) + length (names_in l.numbers) + 1 - l.number
