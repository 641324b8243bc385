use Rattle.std.proofs.Common.{rules, ◌≡◌, true, [], arith, refl}
use Rattle.wasm_spec.specs.Features.{ReferenceTypes, has}
use Rattle.wasm_spec.specs.Subtyping.{same}
use Rattle.wasm_validity_examples.proofs.ConstantSubtypes.{itself, first_on}
use Rattle.wasm_validity_examples.proofs.constant_examples.items_of_elements.Goals as goal

pub returns-clause-not_null : goal.returns-clause-not_null
returns-clause-not_null c = λ features. record { items = (omega arith, tt); mode = (itself, tt) }

pub returns-clause-imported : goal.returns-clause-imported
returns-clause-imported c = λ features. record { items = (omega arith, (omega arith, tt)); mode = (record { null = λ e. refl; heap = same }, tt) }

pub returns-clause-of_none : goal.returns-clause-of_none
returns-clause-of_none c = λ features. (
  λ on. let references : has features ReferenceTypes ≡ true = first_on features ReferenceTypes [] on in
      record { items = (rw references refl, tt); mode = (record { null = λ e. refl; heap = same }, tt) },
  search (rules),
)
