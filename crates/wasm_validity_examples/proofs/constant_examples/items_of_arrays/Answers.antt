use Rattle.std.proofs.Common.{rules, [], refl}
use Rattle.wasm_spec.specs.Features.{Gc}
use Rattle.wasm_spec.specs.Trees.{type_at, unrolled}
use Rattle.wasm_spec.specs.Types.{Abstract, Any, I31, Struct}
use Rattle.wasm_spec.proofs.Closures.{sound}
use Rattle.wasm_spec_examples.proofs.TypeKinds.{kind_below}
use Rattle.wasm_validity_examples.specs.ConstantExamples.{aggregates}
use Rattle.wasm_validity_examples.proofs.ConstantSubtypes.{itself, first_on}
use Rattle.wasm_validity_examples.proofs.constant_examples.items_of_arrays.Goals as goal

pub returns-clause-repeated : goal.returns-clause-repeated
returns-clause-repeated c = λ features. (λ on. rw (first_on features Gc [] on) (tt, (record { null = λ e. refl; heap = kind_below unrolled (type_at aggregates.types 0) Struct Any (record { type = _; is = refl; holds = refl }) refl }, itself)), search (rules))

pub returns-clause-two_kinds : goal.returns-clause-two_kinds
returns-clause-two_kinds c = λ features. (λ on. rw (first_on features Gc [] on) (tt, (record { null = λ e. refl; heap = kind_below unrolled (type_at aggregates.types 0) Struct Any (record { type = _; is = refl; holds = refl }) refl }, (record { null = λ e. refl; heap = sound unrolled (Abstract I31) (Abstract Any) refl }, itself))), search (rules))
