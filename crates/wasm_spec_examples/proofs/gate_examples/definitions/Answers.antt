use Rattle.std.proofs.Common.{true, ◌&&◌, refl, sym, ap}
use Rattle.wasm_spec.specs.Features.{Floats, Gc, GcTypes, MultiValue, StackSwitching, has}
use Rattle.wasm_spec_examples.proofs.GateForms.{ends, both, all_three, three_ended, thrice, in_group}
use Rattle.wasm_spec_examples.proofs.gate_examples.definitions.Goals as goal

pub returns : goal.returns
returns c = record {
  one_result = λ features. refl;
  several_results = λ features. ends (has features MultiValue);
  parameter = λ features. thrice (has features Floats);
  result = λ features. sym (ends (has features Floats && true));
  structure = λ features. both (has features Gc) (has features GcTypes);
  structure_of_a_float = λ features. three_ended (has features Gc) (has features GcTypes) (has features Floats);
  array = λ features. both (has features Gc) (has features GcTypes);
  array_of_halves = λ features. both (has features Gc) (has features GcTypes);
  array_of_floats = λ features. all_three (has features Gc) (has features GcTypes) (has features Floats);
  continuation = λ function features. ap (λ x. has features StackSwitching && x) (ends (has features GcTypes));
  final_alone = λ features. refl;
  not_final = λ features. refl;
  with_a_supertype = λ index features. refl;
  group = λ features. refl;
  group_of_none = λ features. refl;
  group_with_a_float = λ features. in_group (has features Gc) (has features Floats);
}
