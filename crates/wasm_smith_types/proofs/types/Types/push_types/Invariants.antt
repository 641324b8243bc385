use Rattle.std.proofs.Common.{◌-◌, ◌≤◌, IfSome, length}
use Rattle.wasm_smith_types.specs.Drawing.{members_at}
use Rattle.wasm_smith_types.specs.Making.{has_candidates, AddsAll, IsLeft}
use Rattle.wasm_smith_types.proofs.types.Types.push_types.Given as goal

abbrev pub invariant-loop : goal.invariant-loop
invariant-loop l = record {
  valid : AddsAll l.offers l.end l.counter l.fn.self l.self;
  drawn : IfSome (members_at l.offers l.end (has_candidates l.fn.self) l.count l.fn.unstructured)
      (λ drawn. IsLeft l.offers l.end (l.count - l.counter) drawn l.fn.self l.self l.unstructured);
  taken : length l.unstructured ≤ length l.fn.unstructured;
}
