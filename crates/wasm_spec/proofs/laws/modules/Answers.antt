use Rattle.std.proofs.Common.{refl, arith}
use Rattle.wasm_spec.specs.Grammar.{header, IsSection}
use Rattle.wasm_spec.proofs.EncodingBytes.{parted, of_items}
use Rattle.wasm_spec.proofs.SectionBytes.{of_section}
use Rattle.wasm_spec.proofs.laws.modules.Goals as goal

pub returns-clause-bytes : goal.returns-clause-bytes
returns-clause-bytes c = λ compact encoding sections h.
    parted encoding header h.body h.begins (omega arith, (omega arith, (omega arith, (omega arith, (omega arith, (omega arith, (omega arith, (omega arith, tt))))))))
    (of_items (IsSection compact) (of_section compact) h.body sections h.holds)

pub returns-clause-spaces : goal.returns-clause-spaces
returns-clause-spaces c = λ type a b bodies name contents. refl
