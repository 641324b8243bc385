use Rattle.std.proofs.Common.{ℕ, Bool, List, ◌∷◌, ◌++◌, sym, ◌∙◌, ap, arith}
use Rattle.wasm_spec.specs.ModuleParts.{IsExport}
use Rattle.wasm_spec.specs.Syntax.{Export}
use Rattle.wasm_spec.specs.TypeGrammar.{kind_code}
use Rattle.wasm_spec.proofs.WrongEncodings.{after_name, heads, small_kind}
use Rattle.wasm_validity.specs.Entries.{Entry, IsItem, OfBody, OfCustom, OfData, OfDataCount, OfElement, OfExport, OfFunction, OfGlobal, OfImport, OfMemory, OfStart, OfTable, OfTag, OfTags, OfType}
use Rattle.wasm_validity_examples.proofs.item_examples.no_items.Goals as goal

no_export : (rest : List ℕ) (export : Export) → ¬ (IsExport (0x01 ∷ 0x61 ∷ 0x05 ∷ rest) export)
no_export rest export h =
    let p = after_name h.0 h.1 (0x05 ∷ rest) export.name 0x61 h.3 h.2 in
    let k = heads 0x05 (kind_code export.kind) rest h.4.1 (sym p ∙ h.4.2 ∙ ap (λ (l : List ℕ). l ++ h.4.1) h.4.3) in
    omega (arith, k, small_kind export.kind)

no_entry : (compact : Bool) (rest : List ℕ) (entry : Entry) → ¬ (IsItem compact 7 (0x01 ∷ 0x61 ∷ 0x05 ∷ rest) entry)
no_entry compact rest (OfExport export) h = no_export rest export h.1
no_entry compact rest (OfType group) h = omega (arith, h.0)
no_entry compact rest (OfFunction index) h = omega (arith, h.0)
no_entry compact rest (OfTable table) h = omega (arith, h.0)
no_entry compact rest (OfMemory type) h = omega (arith, h.0)
no_entry compact rest (OfTag index) h = omega (arith, h.0)
no_entry compact rest (OfGlobal global) h = omega (arith, h.0)
no_entry compact rest (OfElement segment) h = omega (arith, h.0)
no_entry compact rest (OfBody body) h = omega (arith, h.0)
no_entry compact rest (OfData segment) h = omega (arith, h.0)
no_entry compact rest (OfImport entry) h = omega (arith, h.0)
no_entry compact rest (OfCustom name) h = h
no_entry compact rest (OfStart function) h = h
no_entry compact rest (OfDataCount count) h = h
no_entry compact rest OfTags h = h

pub returns-clause-other_export : goal.returns-clause-other_export
returns-clause-other_export c = no_entry
