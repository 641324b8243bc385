use Rattle.std.proofs.Common.{map}
use Rattle.wasm_core_types.specs.SubTypes.{sub_type}
use Rattle.wasm_spec.specs.Subtyping.{Closure, Link}
use Rattle.wasm_smith_validity.specs.Below.{seen}
use Rattle.wasm_smith_validity.specs.Linked.{AreLinked}
use Rattle.wasm_smith_validity.proofs.BelowLaws.{IsLow}
use Rattle.wasm_smith_validity.proofs.subtyping.is_under.Given as goal

abbrev pub invariant-loop : goal.invariant-loop
invariant-loop l = record {
  up : AreLinked (map sub_type l.types) → Closure (Link (seen l.types)) l.low l.at;
  left : Closure (Link (seen l.types)) l.low l.high → Closure (Link (seen l.types)) l.at l.high;
  low : AreLinked (map sub_type l.types) → IsLow l.types l.counter l.at;
}
