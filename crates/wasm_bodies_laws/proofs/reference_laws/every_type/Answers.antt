use Rattle.wasm_bodies_laws.proofs.WantedChoices.{agree_any, any_agree, any_frames, any_function, any_labels, any_wanted, any_wanted_in}
use Rattle.wasm_bodies_laws.proofs.reference_laws.every_type.Goals as goal

pub returns : goal.returns
returns c start = record {
  agreement = λ f items below. (any_agree f items below, agree_any f items below);
  wanted = any_wanted;
  functions = any_function;
  contexts = any_wanted_in;
  labels = any_labels;
  frames = any_frames;
}
