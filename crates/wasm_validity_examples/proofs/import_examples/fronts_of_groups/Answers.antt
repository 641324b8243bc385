use Rattle.std.proofs.Common.{[], ◌∷◌, arith, refl}
use Rattle.wasm_spec.specs.Syntax.{CompactItems, CompactNames}
use Rattle.wasm_spec.specs.Types.{MemoryExternal}
use Rattle.wasm_spec_examples.specs.Examples.{at_least}
use Rattle.wasm_validity_examples.proofs.GroupFronts.{nothing, one_import, one_memory}
use Rattle.wasm_validity_examples.proofs.import_examples.fronts_of_groups.Goals as goal

pub returns-clause-items : goal.returns-clause-items
returns-clause-items c = λ rest.
    one_import 11 (0x01 ∷ 0x6d ∷ 0x00 ∷ 0x7f ∷ 0x01 ∷ 0x01 ∷ 0x61 ∷ 0x02 ∷ 0x00 ∷ 0x01 ∷ []) rest (CompactItems (0x6d ∷ []) (record { name = 0x61 ∷ []; type = MemoryExternal (at_least 1) } ∷ [])) (omega arith) refl
    (one_memory (0x00 ∷ 0x01 ∷ []) (at_least 1) (0x01 ∷ [], refl, (0x01 ∷ [], [], refl, (omega arith, omega arith, refl), ([], [], refl, refl, refl))))

pub returns-clause-items_without : goal.returns-clause-items_without
returns-clause-items_without c = λ rest. nothing 0x7f 11 (omega arith) (omega arith) (0x01 ∷ 0x01 ∷ 0x61 ∷ 0x02 ∷ 0x00 ∷ 0x01 ∷ rest)

pub returns-clause-names : goal.returns-clause-names
returns-clause-names c = λ rest.
    one_import 13 (0x01 ∷ 0x6d ∷ 0x00 ∷ 0x7e ∷ 0x02 ∷ 0x00 ∷ 0x01 ∷ 0x02 ∷ 0x01 ∷ 0x61 ∷ 0x01 ∷ 0x62 ∷ []) rest (CompactNames (0x6d ∷ []) (MemoryExternal (at_least 1)) ((0x61 ∷ []) ∷ (0x62 ∷ []) ∷ [])) (omega arith) refl
    c.imports_and_exports.ensures.names

pub returns-clause-names_without : goal.returns-clause-names_without
returns-clause-names_without c = λ rest. nothing 0x7e 13 (omega arith) (omega arith) (0x02 ∷ 0x00 ∷ 0x01 ∷ 0x02 ∷ 0x01 ∷ 0x61 ∷ 0x01 ∷ 0x62 ∷ rest)
