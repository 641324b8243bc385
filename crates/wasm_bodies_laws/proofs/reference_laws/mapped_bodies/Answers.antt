use Rattle.wasm_bodies_laws.specs.References.{WantedBy}
use Rattle.wasm_bodies_laws.proofs.MappedFunctions.{function_body_along, function_body_back, many_locals_along, many_locals_back, other_operator_along, other_operator_back}
use Rattle.wasm_bodies_laws.proofs.reference_laws.mapped_bodies.Goals as goal

pub returns : goal.returns
returns c start = record {
  bodies = λ is_wanted f features items below agree wanted type both bytes. (
    function_body_along (WantedBy is_wanted) f features items below agree wanted type both bytes,
    function_body_back (WantedBy is_wanted) f features items below agree wanted type both bytes,
  );
  many_locals = λ f features items below type bytes. (many_locals_along f features items below type bytes, many_locals_back f features items below type bytes);
  other_operators = λ is_wanted f features items below agree wanted type both bytes. (
    other_operator_along (WantedBy is_wanted) f features items below agree wanted type both bytes,
    other_operator_back (WantedBy is_wanted) f features items below agree wanted type both bytes,
  );
}
