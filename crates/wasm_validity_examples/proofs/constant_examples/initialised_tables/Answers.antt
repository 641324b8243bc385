use Rattle.std.proofs.Common.{rules, ◌≡◌, true, [], ◌∷◌, refl}
use Rattle.wasm_spec.specs.Features.{FunctionReferences, ReferenceTypes, has}
use Rattle.wasm_spec.specs.Trees.{type_at, unrolled}
use Rattle.wasm_spec.specs.Types.{Func}
use Rattle.wasm_spec_examples.proofs.TypeKinds.{kind_below}
use Rattle.wasm_validity_examples.specs.Examples.{with_types}
use Rattle.wasm_validity_examples.proofs.ConstantSubtypes.{itself, first_on, second_on}
use Rattle.wasm_validity_examples.proofs.constant_examples.initialised_tables.Goals as goal

pub returns-clause-null : goal.returns-clause-null
returns-clause-null c = λ features. (
  λ on. let references : has features ReferenceTypes ≡ true = first_on features ReferenceTypes (FunctionReferences ∷ []) on in
      record { type = refl; filled = second_on features ReferenceTypes FunctionReferences [] on; initialiser = rw references itself },
  search (rules),
)

pub returns-clause-not_null : goal.returns-clause-not_null
returns-clause-not_null c = λ features. (
  λ on. let references : has features ReferenceTypes ≡ true = first_on features ReferenceTypes (FunctionReferences ∷ []) on in
      let functions : has features FunctionReferences ≡ true = second_on features ReferenceTypes FunctionReferences [] on in
      record { type = rw references rw functions refl; filled = functions; initialiser = rw references record { null = λ e. e; heap = kind_below unrolled (type_at (with_types []).types 0) Func Func (record { type = _; is = refl; holds = refl }) refl } },
  search (rules),
)
