use Rattle.std.proofs.Common.{rules, ◌≡◌, true, [], ◌∷◌, refl}
use Rattle.wasm_spec.specs.Features.{FunctionReferences, ReferenceTypes, has}
use Rattle.wasm_spec.specs.Subtyping.{same}
use Rattle.wasm_spec.specs.Trees.{type_at, unrolled}
use Rattle.wasm_spec.specs.Types.{Extern, Func}
use Rattle.wasm_spec_examples.proofs.TypeKinds.{kind_below}
use Rattle.wasm_validity_examples.specs.Examples.{with_types}
use Rattle.wasm_validity_examples.proofs.ConstantSubtypes.{itself, apart, first_on, second_on}
use Rattle.wasm_validity_examples.proofs.constant_examples.items_below.Goals as goal

pub returns-clause-not_null : goal.returns-clause-not_null
returns-clause-not_null c = λ features. (
  λ on. let references : has features ReferenceTypes ≡ true = first_on features ReferenceTypes (FunctionReferences ∷ []) on in
      let functions : has features FunctionReferences ≡ true = second_on features ReferenceTypes FunctionReferences [] on in
      record { items = (rw references rw functions refl, (rw references record { null = λ e. e; heap = kind_below unrolled (type_at (with_types []).types 0) Func Func (record { type = _; is = refl; holds = refl }) refl }, tt)); mode = (record { null = λ e. refl; heap = same }, tt) },
  search (rules),
)

pub returns-clause-expression : goal.returns-clause-expression
returns-clause-expression c = λ features. (
  λ on. let references : has features ReferenceTypes ≡ true = first_on features ReferenceTypes [] on in
      record { items = (rw references refl, (rw references record { null = λ e. refl; heap = kind_below unrolled (type_at (with_types []).types 0) Func Func (record { type = _; is = refl; holds = refl }) refl }, tt)); mode = (itself, tt) },
  search (rules),
)

pub returns-clause-other_kind : goal.returns-clause-other_kind
returns-clause-other_kind c = λ features k. apart Extern Func refl k.mode.0.heap
