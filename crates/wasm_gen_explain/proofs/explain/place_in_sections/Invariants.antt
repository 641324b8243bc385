use Rattle.std.proofs.Common.{◌≤◌, ℕ, length}
use Rattle.wasm_gen_explain.specs.Passed.{ArePassed}
use Rattle.wasm_gen_explain.specs.Places.{PassesNext}
use Rattle.wasm_gen_explain.proofs.PlaceLaws.{module_left}
use Rattle.wasm_gen_explain.proofs.explain.place_in_sections.Given as goal

-- the sections so far are passed, and each function that they import took a byte
abbrev pub invariant-sections : goal.invariant-sections
invariant-sections l = record {
  past : (number : ℕ) × ArePassed (PassesNext l.offset) (module_left l.initial.reader 0) number (module_left l.reader l.imported);
  few : l.imported ≤ l.reader.position;
}

abbrev pub decreases-sections : goal.decreases-sections
decreases-sections l = length l.reader.rest
