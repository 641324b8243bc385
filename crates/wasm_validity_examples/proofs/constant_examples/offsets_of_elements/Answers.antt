use Rattle.std.proofs.Common.{rules, ◌≡◌, true, [], refl}
use Rattle.wasm_spec.specs.Features.{ExtendedConst, Gc, has}
use Rattle.wasm_spec.specs.Subtyping.{same}
use Rattle.wasm_validity_examples.proofs.ConstantSubtypes.{first_on}
use Rattle.wasm_validity_examples.proofs.constant_examples.offsets_of_elements.Goals as goal

pub returns-clause-imported_global : goal.returns-clause-imported_global
returns-clause-imported_global c = λ features. record { items = tt; mode = (record { null = λ e. refl; heap = same }, tt) }

pub returns-clause-own_global : goal.returns-clause-own_global
returns-clause-own_global c = λ features. (
  λ on. let gc : has features Gc ≡ true = first_on features Gc [] on in
      record { items = tt; mode = (record { null = λ e. refl; heap = same }, rw gc tt) },
  search (rules),
)

pub returns-clause-sum : goal.returns-clause-sum
returns-clause-sum c = λ features. (
  λ on. let extended : has features ExtendedConst ≡ true = first_on features ExtendedConst [] on in
      record { items = tt; mode = (record { null = λ e. refl; heap = same }, rw extended (tt, (tt, tt))) },
  search (rules),
)

pub returns-clause-first : goal.returns-clause-first
returns-clause-first c = λ features. record { items = tt; mode = (record { null = λ e. refl; heap = same }, tt) }
