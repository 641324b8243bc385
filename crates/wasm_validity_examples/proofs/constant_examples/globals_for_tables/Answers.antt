use Rattle.std.proofs.Common.{rules, ◌≡◌, true, [], refl}
use Rattle.wasm_spec.specs.Features.{FunctionReferences, has}
use Rattle.wasm_validity_examples.proofs.ConstantSubtypes.{itself, first_on}
use Rattle.wasm_validity_examples.proofs.constant_examples.globals_for_tables.Goals as goal

pub returns-clause-imported : goal.returns-clause-imported
returns-clause-imported c = λ features. (
  λ on. let functions : has features FunctionReferences ≡ true = first_on features FunctionReferences [] on in
      record { type = refl; filled = functions; initialiser = itself },
  search (rules),
)
