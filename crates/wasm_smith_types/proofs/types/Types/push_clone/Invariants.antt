use Rattle.std.proofs.Common.{◌≡◌, ◌++◌, take, drop}
use Rattle.wasm_smith_types.specs.Grouped.{shifted_types}
use Rattle.wasm_smith_types.specs.Making.{made, AreCandidates}
use Rattle.wasm_smith_types.proofs.types.Types.push_clone.Given as goal

abbrev pub invariant-loop-place : goal.invariant-loop-place
invariant-loop-place l = record {
  copied : made l.self ≡ made l.fn.self ++ shifted_types l.shift.start l.shift.by (take l.place (drop l.shift.start (made l.fn.self)));
  sizes : l.self.sizes.items ≡ l.fn.self.sizes.items;
  candidates : AreCandidates (made l.self) l.self.candidates.items;
}
