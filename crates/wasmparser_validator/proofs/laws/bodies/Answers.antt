use Rattle.wasmparser_validator.proofs.BodiesById.{answered_by_ids, as_written, judged_by_ids, same_function}
use Rattle.wasmparser_validator.proofs.FunctionTypes.{function_has_type}
use Rattle.wasmparser_validator.proofs.laws.bodies.Goals as goal

pub returns : goal.returns
returns c = record {
  written = as_written;
  named = function_has_type;
  functions = λ features sections ids interned sub_types index keep known. same_function features sections keep ids interned sub_types known index;
  by_each_test = answered_by_ids;
  judged = judged_by_ids;
}
