use Rattle.std.proofs.Common.{rules, ◌≡◌, true, [], ◌∷◌, refl}
use Rattle.wasm_spec.specs.Features.{BulkMemory, ReferenceTypes, has}
use Rattle.wasm_spec.specs.Subtyping.{same}
use Rattle.wasm_validity_examples.proofs.ConstantSubtypes.{first_on, function_is_not_external, itself, second_on}
use Rattle.wasm_validity_examples.proofs.element_examples.types_from_globals.Goals as goal

pub returns-clause-not_null : goal.returns-clause-not_null
returns-clause-not_null c = λ features. (
  λ on. let references : has features ReferenceTypes ≡ true = first_on features ReferenceTypes [] on in
      record { items = (rw references refl, (record { null = λ e. refl; heap = same }, tt)); mode = (record { null = λ e. refl; heap = same }, tt) },
  search (rules),
)

pub returns-clause-other_kind : goal.returns-clause-other_kind
returns-clause-other_kind c = λ features k. function_is_not_external k.items.1.0.heap

pub returns-clause-passive : goal.returns-clause-passive
returns-clause-passive c = λ features. (
  λ on. let references : has features ReferenceTypes ≡ true = first_on features ReferenceTypes (BulkMemory ∷ []) on in
      record { items = (rw references refl, (itself, tt)); mode = second_on features ReferenceTypes BulkMemory [] on },
  search (rules),
)

pub returns-clause-declared : goal.returns-clause-declared
returns-clause-declared c = λ features. (
  λ on. let references : has features ReferenceTypes ≡ true = first_on features ReferenceTypes (BulkMemory ∷ []) on in
      record { items = (rw references refl, (itself, tt)); mode = second_on features ReferenceTypes BulkMemory [] on },
  search (rules),
)
