-- Sections that read, one after the other, are the sections of a module.
use Rattle.std.proofs.Common.{◌≡◌, Bool, List, [], ◌∷◌, length, refl}
use Rattle.std.specs.List.{AllByRecursion, flat_map}
use Rattle.wasm_encoder_sections.proofs.ShortestSections.{reads}
use Rattle.wasm_encoder_sections_laws.specs.WrittenModules.{WrittenSection, sections_of, IsReadable, written_section, written_module}
use Rattle.wasm_spec.specs.Bytes.{IsItems}
use Rattle.wasm_spec.specs.Grammar.{IsSection, IsModule, AreOrdered}
use Rattle.wasm_spec.specs.Syntax.{functions_of, bodies_of, data_of, data_counts_of}

items : (compact : Bool) (written : List WrittenSection) → AllByRecursion (IsReadable compact) written → IsItems (IsSection compact) (flat_map written_section written) (sections_of written)
items compact [] h = refl
items compact (it ∷ others) h = (written_section it, flat_map written_section others, refl, reads compact it.content it.section h.0.0 h.0.1, items compact others h.1)

pub modules : (compact : Bool) (written : List WrittenSection) → AllByRecursion (IsReadable compact) written → AreOrdered 0 (sections_of written)
    → length (functions_of (sections_of written)) ≡ length (bodies_of (sections_of written))
    → AllByRecursion (λ count. count ≡ length (data_of (sections_of written))) (data_counts_of (sections_of written))
    → IsModule compact (written_module written) (sections_of written)
modules compact written h ordered agreeing counted = record {
  body = flat_map written_section written;
  begins = refl;
  holds = items compact written h;
  ordered = ordered;
  agreeing = agreeing;
  counted = counted;
}
