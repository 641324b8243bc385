use Rattle.std.proofs.Common.{rules, refl}
use Rattle.wasm_spec.specs.Types.{Func, Struct}
use Rattle.wasm_spec.specs.Trees.{unrolled}
use Rattle.wasm_spec_examples.proofs.TypeKinds.{kind_above}
use Rattle.wasm_validity_examples.proofs.ConstantSubtypes.{itself}
use Rattle.wasm_validity_examples.proofs.RelatedTypes.{at, link_of_functions, no_function_upward, not_upward, one_link, structure}
use Rattle.wasm_validity_examples.proofs.subtype_examples.items_of_tables.Goals as goal

pub returns-clause-below : goal.returns-clause-below
returns-clause-below c = λ features references gc. record { items = (rw references rw gc refl, tt); mode = (record { null = λ e. refl; heap = one_link }, tt) }

pub returns-clause-above : goal.returns-clause-above
returns-clause-above c = λ features k. not_upward k.mode.0.heap

pub returns-clause-equal : goal.returns-clause-equal
returns-clause-equal c = λ features references gc. record { items = (rw references rw gc refl, tt); mode = (itself, tt) }

pub returns-clause-of_functions : goal.returns-clause-of_functions
returns-clause-of_functions c = λ features k. let e = kind_above unrolled (at 0) Struct Func structure k.mode.0.heap in absurd cc

pub returns-clause-lower_function : goal.returns-clause-lower_function
returns-clause-lower_function c = λ features references gc. record {
  items = (rw references rw gc refl, (rw references record { null = λ e. refl; heap = link_of_functions }, tt));
  mode = (itself, tt);
}

pub returns-clause-higher_function : goal.returns-clause-higher_function
returns-clause-higher_function c = search (rules, no_function_upward)
