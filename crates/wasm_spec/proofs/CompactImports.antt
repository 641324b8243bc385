-- What reads without compact imports reads the same with them.
use Rattle.std.proofs.Common.{ℕ, true, false, List, [], ◌∷◌}
use Rattle.wasm_spec.specs.Bytes.{IsItems}
use Rattle.wasm_spec.specs.Grammar.{IsContent, IsSection, IsModule}
use Rattle.wasm_spec.specs.ModuleParts.{IsImport}
use Rattle.wasm_spec.specs.Syntax.{ImportEntry, Import, CompactItems, CompactNames, Section, Custom, TypeSection, ImportSection, FunctionSection, TableSection, MemorySection, TagSection, GlobalSection, ExportSection, StartSection, ElementSection, DataCountSection, CodeSection, DataSection}

items_with : {A : Type 0} (IsA IsB : List ℕ → A → Type 0) → ((bytes : List ℕ) (value : A) → IsA bytes value → IsB bytes value)
    → (bytes : List ℕ) (values : List A) → IsItems IsA bytes values → IsItems IsB bytes values
items_with IsA IsB law bytes [] h = h
items_with IsA IsB law bytes (value ∷ values) h = (h.0, h.1, h.2, law h.0 value h.3, items_with IsA IsB law h.1 values h.4)

import_with : (bytes : List ℕ) (entry : ImportEntry) → IsImport false bytes entry → IsImport true bytes entry
import_with bytes (Import origin name type) h = h
import_with bytes (CompactItems origin items) h = let off = h.0 in absurd cc
import_with bytes (CompactNames origin type names) h = let off = h.0 in absurd cc

content_with : (bytes : List ℕ) (section : Section) → IsContent false bytes section → IsContent true bytes section
content_with bytes (Custom name contents) h = h
content_with bytes (TypeSection groups) h = h
content_with bytes (ImportSection imports) h = (h.0, h.1, h.2, h.3, items_with (IsImport false) (IsImport true) import_with h.1 imports h.4)
content_with bytes (FunctionSection indexes) h = h
content_with bytes (TableSection tables) h = h
content_with bytes (MemorySection types) h = h
content_with bytes (TagSection indexes) h = h
content_with bytes (GlobalSection globals) h = h
content_with bytes (ExportSection exports) h = h
content_with bytes (StartSection function) h = h
content_with bytes (ElementSection segments) h = h
content_with bytes (DataCountSection count) h = h
content_with bytes (CodeSection bodies) h = h
content_with bytes (DataSection segments) h = h

section_with : (bytes : List ℕ) (section : Section) → IsSection false bytes section → IsSection true bytes section
section_with bytes section h = (h.0, h.1, (h.2.0, h.2.1, h.2.2, h.2.3, content_with h.2.1 section h.2.4))

pub module_with : (bytes : List ℕ) (sections : List Section) → IsModule false bytes sections → IsModule true bytes sections
module_with bytes sections m = record {
  body = m.body;
  begins = m.begins;
  holds = items_with (IsSection false) (IsSection true) section_with m.body sections m.holds;
  ordered = m.ordered;
  agreeing = m.agreeing;
  counted = m.counted;
}
