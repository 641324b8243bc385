use Rattle.std.proofs.Common.{rules, ◌≡◌, true, [], ◌∷◌, refl}
use Rattle.wasm_spec.specs.Features.{Gc, ReferenceTypes, has}
use Rattle.wasm_spec.specs.Subtyping.{same}
use Rattle.wasm_validity_examples.proofs.ConstantSubtypes.{itself, first_on, second_on}
use Rattle.wasm_validity_examples.proofs.element_examples.items_from_globals.Goals as goal

pub returns-clause-imported : goal.returns-clause-imported
returns-clause-imported c = λ features. (
  λ on. let references : has features ReferenceTypes ≡ true = first_on features ReferenceTypes [] on in
      record { items = (rw references refl, (itself, tt)); mode = (record { null = λ e. refl; heap = same }, tt) },
  search (rules),
)

pub returns-clause-own : goal.returns-clause-own
returns-clause-own c = λ features. (
  λ on. let references : has features ReferenceTypes ≡ true = first_on features ReferenceTypes (Gc ∷ []) on in
      let gc : has features Gc ≡ true = second_on features ReferenceTypes Gc [] on in
      record { items = (rw references refl, (rw gc itself, tt)); mode = (record { null = λ e. refl; heap = same }, tt) },
  search (rules),
)
