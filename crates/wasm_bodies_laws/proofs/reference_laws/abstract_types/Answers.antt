use Rattle.wasm_bodies_laws.proofs.WantedChoices.{abstract_function, abstract_wanted, abstract_without, allowed_function, allowed_without, without_abstract}
use Rattle.wasm_bodies_laws.proofs.reference_laws.abstract_types.Goals as goal

pub returns : goal.returns
returns c start = record {
  wanted = λ features items plain own. abstract_wanted features plain items own;
  types = λ type. (abstract_without type, without_abstract type);
  functions = abstract_function;
  allowed = λ features type plain allowed. allowed_without features plain type allowed;
  allowed_functions = λ features type plain allowed. allowed_function features plain type allowed;
}
