use Rattle.wasm_bodies_laws.specs.References.{WantedBy}
use Rattle.wasm_bodies_laws.proofs.MappedBodies.{body_along, body_back}
use Rattle.wasm_bodies_laws.proofs.MappedFunctions.{begun_back, begun_forth, in_function_is, in_function_wanted}
use Rattle.wasm_bodies_laws.proofs.reference_laws.mapped_operators.Goals as goal

pub returns : goal.returns
returns c start = record {
  whole = λ is_wanted f cx below agree wanted operators.
      (body_along (WantedBy is_wanted) f cx below agree wanted operators, body_back (WantedBy is_wanted) f cx below agree wanted operators);
  begun = λ is_wanted f cx below agree wanted operators labels s.
      (begun_back (WantedBy is_wanted) f cx below agree wanted operators labels s, begun_forth (WantedBy is_wanted) f cx below agree wanted operators labels s);
  functions = in_function_is;
  wanted = λ is_wanted features items wanted type both runs. in_function_wanted (WantedBy is_wanted) features items wanted type both runs;
}
