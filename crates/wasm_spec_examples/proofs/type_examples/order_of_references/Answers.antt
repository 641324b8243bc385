use Rattle.std.proofs.Common.{refl}
use Rattle.wasm_spec_examples.proofs.type_examples.order_of_references.Goals as goal

pub returns : goal.returns
returns c = record {
  function = refl;
  structure = refl;
  continuation = refl;
  group = refl;
}
