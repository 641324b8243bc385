use Rattle.std.proofs.Common.{refl}
use Rattle.wasm_spec.specs.Trees.{unrolled}
use Rattle.wasm_spec.specs.Types.{Func, NoFunc, None, Struct}
use Rattle.wasm_spec_examples.proofs.TypeKinds.{bottom_alone, bottom_below}
use Rattle.wasm_validity_examples.proofs.RelatedTypes.{at, function, structure}
use Rattle.wasm_validity_examples.proofs.subtype_examples.kinds_below.Goals as goal

pub returns-clause-none : goal.returns-clause-none
returns-clause-none c = record { null = λ e. refl; heap = bottom_below unrolled (at 0) Struct structure }

pub returns-clause-no_function : goal.returns-clause-no_function
returns-clause-no_function c = record { null = λ e. refl; heap = bottom_below unrolled (at 3) Func function }

pub returns-clause-any_structure : goal.returns-clause-any_structure
returns-clause-any_structure c = λ b. let e = bottom_alone unrolled (at 0) Struct Struct structure b.heap in absurd cc

pub returns-clause-any_function : goal.returns-clause-any_function
returns-clause-any_function c = λ b. let e = bottom_alone unrolled (at 3) Func Func function b.heap in absurd cc

pub returns-clause-none_for_a_function : goal.returns-clause-none_for_a_function
returns-clause-none_for_a_function c = λ b. let e = bottom_alone unrolled (at 3) Func None function b.heap in absurd cc

pub returns-clause-no_function_for_a_structure : goal.returns-clause-no_function_for_a_structure
returns-clause-no_function_for_a_structure c = λ b. let e = bottom_alone unrolled (at 0) Struct NoFunc structure b.heap in absurd cc
