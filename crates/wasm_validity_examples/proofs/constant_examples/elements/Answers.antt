use Rattle.std.proofs.Common.{rules, ◌≡◌, true, [], arith, refl}
use Rattle.wasm_spec.specs.Features.{ReferenceTypes, has}
use Rattle.wasm_spec.specs.Subtyping.{same}
use Rattle.wasm_spec.specs.Trees.{unrolled}
use Rattle.wasm_spec.specs.Types.{Abstract, Extern, Func}
use Rattle.wasm_spec.proofs.Closures.{complete}
use Rattle.wasm_validity_examples.proofs.ConstantSubtypes.{itself, first_on}
use Rattle.wasm_validity_examples.proofs.constant_examples.elements.Goals as goal

pub returns-clause-none : goal.returns-clause-none
returns-clause-none c = λ features. record { items = tt; mode = (record { null = λ e. refl; heap = same }, tt) }

pub returns-clause-function : goal.returns-clause-function
returns-clause-function c = λ features. record { items = (omega arith, tt); mode = (record { null = λ e. refl; heap = same }, tt) }

pub returns-clause-second_table : goal.returns-clause-second_table
returns-clause-second_table c = λ features. record { items = tt; mode = (record { null = λ e. refl; heap = same }, tt) }

pub returns-clause-expression : goal.returns-clause-expression
returns-clause-expression c = λ features. (
  λ on. let references : has features ReferenceTypes ≡ true = first_on features ReferenceTypes [] on in
      record { items = (rw references refl, (rw references itself, tt)); mode = (record { null = λ e. refl; heap = same }, tt) },
  search (rules),
)

pub returns-clause-other_table : goal.returns-clause-other_table
returns-clause-other_table c = λ features k. let e = complete unrolled {a = Abstract Func} {b = Abstract Extern} k.mode.0.heap in absurd cc
