use Rattle.std.proofs.Common.{rules, ◌≡◌, true, [], ◌∷◌, refl}
use Rattle.wasm_spec.specs.Features.{GcTypes, ReferenceTypes, has}
use Rattle.wasm_spec.specs.Subtyping.{same}
use Rattle.wasm_spec.specs.Types.{Extern, Func}
use Rattle.wasm_validity_examples.proofs.ConstantSubtypes.{apart, first_on, function_is_not_external, itself, second_on}
use Rattle.wasm_validity_examples.proofs.element_examples.written_tables.Goals as goal

pub returns-clause-second : goal.returns-clause-second
returns-clause-second c = λ features. (
  λ on. let references : has features ReferenceTypes ≡ true = first_on features ReferenceTypes (GcTypes ∷ []) on in
      let gc_types : has features GcTypes ≡ true = second_on features ReferenceTypes GcTypes [] on in
      record { items = (rw references rw gc_types refl, (rw references rw gc_types itself, tt)); mode = (itself, tt) },
  search (rules),
)

pub returns-clause-first : goal.returns-clause-first
returns-clause-first c = λ features k. apart Extern Func refl k.mode.0.heap

pub returns-clause-functions_in_the_first : goal.returns-clause-functions_in_the_first
returns-clause-functions_in_the_first c = λ features. (
  λ on. let references : has features ReferenceTypes ≡ true = first_on features ReferenceTypes [] on in
      record { items = (rw references refl, (rw references itself, tt)); mode = (record { null = λ e. refl; heap = same }, tt) },
  search (rules),
)

pub returns-clause-functions_in_the_second : goal.returns-clause-functions_in_the_second
returns-clause-functions_in_the_second c = λ features k. function_is_not_external k.mode.0.heap

pub returns-clause-wrong_item : goal.returns-clause-wrong_item
returns-clause-wrong_item c = search (rules, function_is_not_external)
