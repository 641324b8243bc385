use Rattle.std.proofs.Common.{Bool, List, ◌∷◌, [], refl, arith}
use Rattle.std.specs.List.{AllByRecursion, flat_map}
use Rattle.wasm_spec.specs.Bytes.{IsU32, IsItems}
use Rattle.wasm_spec.specs.Grammar.{section_id, IsContent, IsSection}
use Rattle.wasm_spec.specs.ModuleParts.{IsImport, IsTable, IsGlobal, IsExport, IsElementSegment, IsBody, IsDataSegment}
use Rattle.wasm_spec.specs.Syntax.{Section, CodeSection, DataCountSection, DataSection, ElementSection, ExportSection, FunctionSection, GlobalSection, ImportSection, MemorySection, StartSection, TableSection, TagSection, TypeSection}
use Rattle.wasm_spec.specs.TypeGrammar.{IsRecGroup, IsMemoryType, IsTagType}
use Rattle.wasm_spec.proofs.Encodings.{small, none, section}
use Rattle.wasm_spec_examples.proofs.section_examples.every_section.Goals as goal

-- sections whose content is a byte 00, one after the other
sections_are : (compact : Bool) (sections : List Section) → AllByRecursion (λ s. IsContent compact (0x00 ∷ []) s) sections
    → IsItems (IsSection compact) (flat_map (λ s. section_id s ∷ 0x01 ∷ 0x00 ∷ []) sections) sections
sections_are compact [] h = refl
sections_are compact (s ∷ ss) h =
    (section_id s ∷ 0x01 ∷ 0x00 ∷ [], _, refl, section compact (0x01 ∷ []) (0x00 ∷ []) s (small 1 (omega arith)) h.0, sections_are compact ss h.1)

pub returns : goal.returns
returns c = λ compact. record {
  body = 0x01 ∷ 0x01 ∷ 0x00 ∷ 0x02 ∷ 0x01 ∷ 0x00 ∷ 0x03 ∷ 0x01 ∷ 0x00 ∷ 0x04 ∷ 0x01 ∷ 0x00 ∷ 0x05 ∷ 0x01 ∷ 0x00 ∷ 0x0d ∷ 0x01 ∷ 0x00 ∷ 0x06 ∷ 0x01 ∷ 0x00 ∷ 0x07 ∷ 0x01 ∷ 0x00 ∷ 0x08 ∷ 0x01 ∷ 0x00 ∷ 0x09 ∷ 0x01 ∷ 0x00 ∷ 0x0c ∷ 0x01 ∷ 0x00 ∷ 0x0a ∷ 0x01 ∷ 0x00 ∷ 0x0b ∷ 0x01 ∷ 0x00 ∷ [];
  begins = refl;
  holds = sections_are compact (TypeSection [] ∷ ImportSection [] ∷ FunctionSection [] ∷ TableSection [] ∷ MemorySection [] ∷ TagSection [] ∷ GlobalSection [] ∷ ExportSection [] ∷ StartSection 0 ∷ ElementSection [] ∷ DataCountSection 0 ∷ CodeSection [] ∷ DataSection [] ∷ [])
      (none IsRecGroup, (none (IsImport compact), (none IsU32, (none IsTable, (none IsMemoryType, (none IsTagType, (none IsGlobal, (none IsExport, (small 0 (omega arith), (none IsElementSegment, (small 0 (omega arith), (none IsBody, (none IsDataSegment, tt)))))))))))));
  ordered = (omega arith, (omega arith, (omega arith, (omega arith, (omega arith, (omega arith, (omega arith, (omega arith, (omega arith, (omega arith, (omega arith, (omega arith, (omega arith, tt)))))))))))));
  agreeing = refl;
  counted = (refl, tt);
}
