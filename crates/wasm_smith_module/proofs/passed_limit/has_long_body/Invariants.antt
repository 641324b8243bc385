use Rattle.std.proofs.Common.{drop, map}
use Rattle.std.specs.List.{AllByRecursion}
use Rattle.wasm_smith_definitions.specs.Items.{made_body}
use Rattle.wasm_smith_sections.specs.ModuleEncoding.{SomeByRecursion}
use Rattle.wasm_smith_module.specs.Measured.{IsLongBody, IsShortRaw}
use Rattle.wasm_smith_module.proofs.passed_limit.has_long_body.Given as goal

abbrev pub invariant-loop-body : goal.invariant-loop-body
invariant-loop-body l = record {
  long : SomeByRecursion IsLongBody (map made_body (drop l.body-index l.bodies)) → SomeByRecursion IsLongBody (map made_body l.bodies);
  short : AllByRecursion IsShortRaw (map made_body (drop l.body-index l.bodies)) → AllByRecursion IsShortRaw (map made_body l.bodies);
}
