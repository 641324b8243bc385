use Rattle.std.proofs.Common.{refl}
use Rattle.wasm_spec_examples.proofs.table_examples.codes_of_forms.Goals as goal

pub returns : goal.returns
returns c = record {
  blocks = refl;
  end = refl;
  jumps = refl;
  calls = refl;
  parametric = refl;
  variables = refl;
  numbers = refl;
  references = refl;
  structures = refl;
  arrays = refl;
  conversions = refl;
  ranges_of_memories = refl;
  ranges_of_tables = refl;
  vector = refl;
}
