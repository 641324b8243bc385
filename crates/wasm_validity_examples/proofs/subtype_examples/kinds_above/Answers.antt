use Rattle.std.proofs.Common.{◌≡◌, refl}
use Rattle.wasm_spec.specs.Subtyping.{Defined, abstract_of}
use Rattle.wasm_spec.specs.Trees.{unrolled}
use Rattle.wasm_spec.specs.Types.{Any, Array, Eq, Extern, Func, I31, Struct}
use Rattle.wasm_spec_examples.proofs.TypeKinds.{kind_above, kind_below}
use Rattle.wasm_validity_examples.proofs.RelatedTypes.{at, function, structure}
use Rattle.wasm_validity_examples.proofs.subtype_examples.kinds_above.Goals as goal

lower_structure : Defined unrolled (at 2) (λ c. abstract_of c ≡ Struct)
lower_structure = record { type = _; is = refl; holds = refl }

array : Defined unrolled (at 5) (λ c. abstract_of c ≡ Array)
array = record { type = _; is = refl; holds = refl }

lower_function : Defined unrolled (at 4) (λ c. abstract_of c ≡ Func)
lower_function = record { type = _; is = refl; holds = refl }

pub returns-clause-structure : goal.returns-clause-structure
returns-clause-structure c = record { null = λ e. refl; heap = kind_below unrolled (at 0) Struct Struct structure refl }

pub returns-clause-comparable : goal.returns-clause-comparable
returns-clause-comparable c = record { null = λ e. refl; heap = kind_below unrolled (at 0) Struct Eq structure refl }

pub returns-clause-any : goal.returns-clause-any
returns-clause-any c = record { null = λ e. refl; heap = kind_below unrolled (at 0) Struct Any structure refl }

pub returns-clause-lower_structure : goal.returns-clause-lower_structure
returns-clause-lower_structure c = record { null = λ e. refl; heap = kind_below unrolled (at 2) Struct Any lower_structure refl }

pub returns-clause-array : goal.returns-clause-array
returns-clause-array c = record { null = λ e. refl; heap = kind_below unrolled (at 5) Array Array array refl }

pub returns-clause-comparable_array : goal.returns-clause-comparable_array
returns-clause-comparable_array c = record { null = λ e. refl; heap = kind_below unrolled (at 5) Array Eq array refl }

pub returns-clause-function : goal.returns-clause-function
returns-clause-function c = record { null = λ e. refl; heap = kind_below unrolled (at 3) Func Func function refl }

pub returns-clause-function_not_null : goal.returns-clause-function_not_null
returns-clause-function_not_null c = record { null = λ e. e; heap = kind_below unrolled (at 4) Func Func lower_function refl }

pub returns-clause-structure_as_array : goal.returns-clause-structure_as_array
returns-clause-structure_as_array c = λ b. let e = kind_above unrolled (at 0) Struct Array structure b.heap in absurd cc

pub returns-clause-structure_as_scalar : goal.returns-clause-structure_as_scalar
returns-clause-structure_as_scalar c = λ b. let e = kind_above unrolled (at 0) Struct I31 structure b.heap in absurd cc

pub returns-clause-structure_as_function : goal.returns-clause-structure_as_function
returns-clause-structure_as_function c = λ b. let e = kind_above unrolled (at 0) Struct Func structure b.heap in absurd cc

pub returns-clause-structure_outside : goal.returns-clause-structure_outside
returns-clause-structure_outside c = λ b. let e = kind_above unrolled (at 0) Struct Extern structure b.heap in absurd cc

pub returns-clause-array_as_structure : goal.returns-clause-array_as_structure
returns-clause-array_as_structure c = λ b. let e = kind_above unrolled (at 5) Array Struct array b.heap in absurd cc

pub returns-clause-function_as_any : goal.returns-clause-function_as_any
returns-clause-function_as_any c = λ b. let e = kind_above unrolled (at 3) Func Any function b.heap in absurd cc

pub returns-clause-comparable_function : goal.returns-clause-comparable_function
returns-clause-comparable_function c = λ b. let e = kind_above unrolled (at 3) Func Eq function b.heap in absurd cc
