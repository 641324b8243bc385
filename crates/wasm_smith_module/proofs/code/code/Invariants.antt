use Rattle.std.proofs.Common.{◌≡◌, ◌+◌, ◌-◌, map, ◌≤◌, length}
use Rattle.wasm_smith_definitions.specs.Items.{made_body}
use Rattle.wasm_smith_types.specs.Growing.{times_at, with_front}
use Rattle.wasm_smith_module.specs.Code.{body_at, code_at}
use Rattle.wasm_smith_module.specs.Contents.{raw_total}
use Rattle.wasm_smith_module.proofs.code.code.Given as goal

abbrev pub invariant-loop : goal.invariant-loop
invariant-loop l = record {
  drawn : with_front (map made_body l.bodies.items) (times_at (body_at l.allow_raw l.offers l.bound) (l.count - l.counter) l.unstructured) ≡ code_at l.allow_raw l.fn.offers l.bound l.count l.fn.unstructured;
  taken : length l.unstructured ≤ length l.fn.unstructured;
  within : raw_total (map made_body l.bodies.items) + length l.unstructured ≤ length l.fn.unstructured;
}
