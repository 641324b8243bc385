use Rattle.std.proofs.Common.{[], ◌∷◌, refl, arith}
use Rattle.wasm_spec.proofs.Encodings.{small}
use Rattle.wasm_validity_examples.proofs.item_examples.items_of_sections.Goals as goal

pub returns-clause-import : goal.returns-clause-import
returns-clause-import c = λ compact. (refl, c.imports_and_exports.ensures.function compact)

pub returns-clause-body : goal.returns-clause-body
returns-clause-body c = λ compact. (refl, (0x02 ∷ [], 0x00 ∷ 0x0b ∷ [], refl, small 2 (omega arith), ((omega arith, (omega arith, tt)), refl)))
