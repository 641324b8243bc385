use Rattle.std.proofs.Common.{rules, ◌≡◌, zero, suc, [], length, Some, option_map, refl, ap}
use Rattle.std.specs.Option.{option_and_then}
use Rattle.wasm_spec.specs.Features.{Gc}
use Rattle.wasm_spec.specs.Subtyping.{HeapBelow}
use Rattle.wasm_spec.specs.Trees.{type_at, unrolled}
use Rattle.wasm_spec.specs.Types.{Abstract, Concrete, Array, Eq, Struct}
use Rattle.wasm_spec_examples.proofs.TypeKinds.{kind_above, kind_below, none_above}
use Rattle.wasm_validity.specs.DefinedTypes.{fields_in}
use Rattle.wasm_validity_examples.specs.ConstantExamples.{aggregates}
use Rattle.wasm_validity_examples.proofs.ConstantSubtypes.{first_on}
use Rattle.wasm_validity_examples.proofs.constant_examples.types_of_structures.Goals as goal

pub returns-clause-kind : goal.returns-clause-kind
returns-clause-kind c = λ features. (λ on. rw (first_on features Gc [] on) record { null = λ e. e; heap = kind_below unrolled (type_at aggregates.types 0) Struct Struct (record { type = _; is = refl; holds = refl }) refl }, search (rules))

pub returns-clause-comparable : goal.returns-clause-comparable
returns-clause-comparable c = λ features. (λ on. rw (first_on features Gc [] on) record { null = λ e. refl; heap = kind_below unrolled (type_at aggregates.types 0) Struct Eq (record { type = _; is = refl; holds = refl }) refl }, search (rules))

no_array : HeapBelow unrolled (Concrete (type_at aggregates.types 0)) (Abstract Array) → ⊥
no_array h = let e = kind_above unrolled (type_at aggregates.types 0) Struct Array (record { type = _; is = refl; holds = refl }) h in absurd cc

pub returns-clause-other_kind : goal.returns-clause-other_kind
returns-clause-other_kind c = search (rules, no_array)

no_other : HeapBelow unrolled (Concrete (type_at aggregates.types 0)) (Concrete (type_at aggregates.types 3)) → ⊥
no_other h = let e : Some (suc (suc zero)) ≡ Some (suc zero) = ap (λ type. option_map length (option_and_then (λ sub. fields_in sub.composite_type) (unrolled type))) (none_above unrolled (type_at aggregates.types 0) (type_at aggregates.types 3) _ refl refl h) in absurd cc

pub returns-clause-other_type : goal.returns-clause-other_type
returns-clause-other_type c = search (rules, no_other)
