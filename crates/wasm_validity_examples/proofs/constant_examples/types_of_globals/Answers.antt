use Rattle.std.proofs.Common.{rules, ◌≡◌, true, [], ◌∷◌, refl}
use Rattle.wasm_spec.specs.Features.{FunctionReferences, Gc, ReferenceTypes, has}
use Rattle.wasm_spec.specs.Trees.{type_at, unrolled}
use Rattle.wasm_spec.specs.Subtyping.{same}
use Rattle.wasm_spec.specs.Types.{Func}
use Rattle.wasm_spec_examples.proofs.TypeKinds.{kind_below}
use Rattle.wasm_validity_examples.specs.Examples.{with_types}
use Rattle.wasm_validity_examples.proofs.ConstantSubtypes.{itself, first_on, second_on}
use Rattle.wasm_validity_examples.proofs.constant_examples.types_of_globals.Goals as goal

pub returns-clause-nullable : goal.returns-clause-nullable
returns-clause-nullable c = λ features. (
  λ on. let references : has features ReferenceTypes ≡ true = first_on features ReferenceTypes [] on in
      record { type = rw references refl; initialiser = rw references record { null = λ e. refl; heap = kind_below unrolled (type_at (with_types []).types 0) Func Func (record { type = _; is = refl; holds = refl }) refl } },
  search (rules),
)

pub returns-clause-not_null : goal.returns-clause-not_null
returns-clause-not_null c = λ features. (
  λ on. let references : has features ReferenceTypes ≡ true = first_on features ReferenceTypes (FunctionReferences ∷ []) on in
      let functions : has features FunctionReferences ≡ true = second_on features ReferenceTypes FunctionReferences [] on in
      record { type = rw references rw functions refl; initialiser = rw references record { null = λ e. e; heap = kind_below unrolled (type_at (with_types []).types 0) Func Func (record { type = _; is = refl; holds = refl }) refl } },
  search (rules),
)

pub returns-clause-below : goal.returns-clause-below
returns-clause-below c = λ features. (
  λ on. let references : has features ReferenceTypes ≡ true = first_on features ReferenceTypes [] on in
      record { type = rw references refl; initialiser = record { null = λ e. refl; heap = same } },
  search (rules),
)

pub returns-clause-own : goal.returns-clause-own
returns-clause-own c = λ features. (
  λ on. let gc : has features Gc ≡ true = first_on features Gc (ReferenceTypes ∷ []) on in
      let references : has features ReferenceTypes ≡ true = second_on features Gc ReferenceTypes [] on in
      record { type = rw references refl; initialiser = rw gc itself },
  search (rules),
)
