use Rattle.std.proofs.Common.{rules, ◌≡◌, true, [], ◌∷◌, refl}
use Rattle.wasm_spec.specs.Features.{FunctionReferences, GcTypes, ReferenceTypes, has}
use Rattle.wasm_validity_examples.proofs.ConstantSubtypes.{itself, first_on, second_on, third_on}
use Rattle.wasm_validity_examples.proofs.constant_examples.types_of_tables.Goals as goal

pub returns-clause-external : goal.returns-clause-external
returns-clause-external c = λ features. (
  λ on. let references : has features ReferenceTypes ≡ true = first_on features ReferenceTypes (GcTypes ∷ FunctionReferences ∷ []) on in
      let gc_types : has features GcTypes ≡ true = second_on features ReferenceTypes GcTypes (FunctionReferences ∷ []) on in
      let functions : has features FunctionReferences ≡ true = third_on features ReferenceTypes GcTypes FunctionReferences [] on in
      record { type = rw references rw gc_types refl; filled = functions; initialiser = rw references rw gc_types itself },
  search (rules),
)

pub returns-clause-not_null : goal.returns-clause-not_null
returns-clause-not_null c = λ features. (
  λ on. let references : has features ReferenceTypes ≡ true = first_on features ReferenceTypes (FunctionReferences ∷ []) on in
      let functions : has features FunctionReferences ≡ true = second_on features ReferenceTypes FunctionReferences [] on in
      record { type = rw references rw functions refl; filled = functions; initialiser = itself },
  search (rules),
)
