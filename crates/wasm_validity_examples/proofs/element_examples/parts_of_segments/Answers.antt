use Rattle.std.proofs.Common.{rules, ◌≡◌, true, [], refl}
use Rattle.wasm_spec.specs.Features.{ReferenceTypes, has}
use Rattle.wasm_spec.specs.Subtyping.{same}
use Rattle.wasm_spec.specs.Trees.{type_at, unrolled}
use Rattle.wasm_spec.specs.Types.{Func}
use Rattle.wasm_spec_examples.proofs.TypeKinds.{kind_below}
use Rattle.wasm_validity_examples.specs.Examples.{with_types}
use Rattle.wasm_validity_examples.proofs.ConstantSubtypes.{first_on}
use Rattle.wasm_validity_examples.proofs.element_examples.parts_of_segments.Goals as goal

pub returns-clause-wide : goal.returns-clause-wide
returns-clause-wide c = λ features. (
  λ on. let references : has features ReferenceTypes ≡ true = first_on features ReferenceTypes [] on in
      record { items = (rw references refl, tt); mode = (record { null = λ e. refl; heap = same }, tt) },
  search (rules),
)

pub returns-clause-written : goal.returns-clause-written
returns-clause-written c = λ features. (
  λ on. let references : has features ReferenceTypes ≡ true = first_on features ReferenceTypes [] on in
      record { items = (rw references refl, (rw references record { null = λ e. refl; heap = kind_below unrolled (type_at (with_types []).types 0) Func Func (record { type = _; is = refl; holds = refl }) refl }, tt)); mode = (record { null = λ e. refl; heap = same }, tt) },
  search (rules),
)
