use Rattle.std.proofs.Common.{◌≡◌, ◌≤◌, ℕ, List, [], ◌∷◌, ◌++◌, drop, false, true, arith, sym, ap, ◌∙◌, append-nil}
use Rattle.wasm_spec.specs.Bytes.{IsItems}
use Rattle.wasm_spec.specs.Grammar.{section_id, IsContent, IsSection}
use Rattle.wasm_spec.specs.ModuleParts.{IsImport}
use Rattle.wasm_spec.specs.Syntax.{ImportEntry, Import, CompactItems, CompactNames, Section, Custom, TypeSection, ImportSection, FunctionSection, TableSection, MemorySection, TagSection, GlobalSection, ExportSection, StartSection, ElementSection, DataCountSection, CodeSection, DataSection}
use Rattle.wasm_spec.specs.TypeGrammar.{kind_code, IsExternalType}
use Rattle.wasm_spec.specs.Types.{ExternalType, kind_of}
use Rattle.wasm_spec.proofs.WrongEncodings.{heads, tails, joined, number_is, after_name, after_empty, after_padded, small_kind}
use Rattle.wasm_spec_examples.proofs.grammar_examples.wrong_imports.Goals as goal

-- what begins with such a byte is no external type, whatever follows
no_kind : (bytes after rest : List ℕ) (b : ℕ) (type : ExternalType ℕ) → 5 ≤ b → bytes ++ after ≡ b ∷ rest → ¬ (IsExternalType bytes type)
no_kind bytes after rest b type large e h =
    omega (arith, large, small_kind (kind_of type), heads b (kind_code (kind_of type)) rest (h.0 ++ after) (sym e ∙ ap (λ (l : List ℕ). l ++ after) h.1))

-- without compact imports, whatever stands after an empty name is a kind
no_group : (b : ℕ) → 5 ≤ b → (rest bytes after : List ℕ) (entry : ImportEntry) → 0x01 ∷ 0x6d ∷ 0x00 ∷ b ∷ rest ≡ bytes ++ after → ¬ (IsImport false bytes entry)
no_group b large rest bytes after (Import origin name type) e h =
    let p = after_name h.0 (h.1 ++ after) (0x00 ∷ b ∷ rest) origin 0x6d h.3 (joined bytes after h.0 h.1 _ e h.2) in
    let q = after_empty h.4.0 (h.4.1 ++ after) (b ∷ rest) name h.4.3 (joined h.1 after h.4.0 h.4.1 _ (sym p) h.4.2) in
    no_kind h.4.1 after rest b type large q h.4.4
no_group b large rest bytes after (CompactItems origin items) e h = let f = h.0 in absurd cc
no_group b large rest bytes after (CompactNames origin type names) e h = let f = h.0 in absurd cc

no_padded : (rest : List ℕ) (entry : ImportEntry) → ¬ (IsImport true (0x01 ∷ 0x6d ∷ 0x80 ∷ 0x00 ∷ 0x7f ∷ rest) entry)
no_padded rest (Import origin name type) h =
    let p = after_name h.0 h.1 (0x80 ∷ 0x00 ∷ 0x7f ∷ rest) origin 0x6d h.3 h.2 in
    let q = after_padded h.4.0 h.4.1 (0x7f ∷ rest) name h.4.3 (sym p ∙ h.4.2) in
    no_kind h.4.1 [] rest 0x7f type (omega arith) (append-nil h.4.1 ∙ q) h.4.4
no_padded rest (CompactItems origin items) h =
    let p = after_name h.1.0 h.1.1 (0x80 ∷ 0x00 ∷ 0x7f ∷ rest) origin 0x6d h.1.3 h.1.2 in
    omega (arith, heads 0x80 0x00 _ h.1.4.0 (sym p ∙ h.1.4.1))
no_padded rest (CompactNames origin type names) h =
    let p = after_name h.1.0 h.1.1 (0x80 ∷ 0x00 ∷ 0x7f ∷ rest) origin 0x6d h.1.3 h.1.2 in
    omega (arith, heads 0x80 0x00 _ h.1.4.0 (sym p ∙ h.1.4.1))

-- a section of one import that begins like a group
no_content : (section : Section) (rest content after : List ℕ) → 2 ≡ section_id section → 0x01 ∷ 0x01 ∷ 0x6d ∷ 0x00 ∷ 0x7f ∷ rest ≡ content ++ after
    → ¬ (IsContent false content section)
no_content (ImportSection []) rest content after i e h =
    let n = number_is h.0 (h.1 ++ after) (0x01 ∷ 0x6d ∷ 0x00 ∷ 0x7f ∷ rest) 0x01 _ h.3 (omega arith) (joined content after h.0 h.1 _ e h.2) in
    omega (arith, n.0)
no_content (ImportSection (entry ∷ entries)) rest content after i e h =
    let n = number_is h.0 (h.1 ++ after) (0x01 ∷ 0x6d ∷ 0x00 ∷ 0x7f ∷ rest) 0x01 _ h.3 (omega arith) (joined content after h.0 h.1 _ e h.2) in
    let k = h.4 in
    no_group 0x7f (omega arith) rest k.0 (k.1 ++ after) entry (joined h.1 after k.0 k.1 _ (sym n.1) k.2) k.3
no_content (Custom name contents) rest content after i e h = omega (arith, i)
no_content (TypeSection groups) rest content after i e h = omega (arith, i)
no_content (FunctionSection indexes) rest content after i e h = omega (arith, i)
no_content (TableSection tables) rest content after i e h = omega (arith, i)
no_content (MemorySection types) rest content after i e h = omega (arith, i)
no_content (TagSection indexes) rest content after i e h = omega (arith, i)
no_content (GlobalSection globals) rest content after i e h = omega (arith, i)
no_content (ExportSection exports) rest content after i e h = omega (arith, i)
no_content (StartSection function) rest content after i e h = omega (arith, i)
no_content (ElementSection segments) rest content after i e h = omega (arith, i)
no_content (DataCountSection count) rest content after i e h = omega (arith, i)
no_content (CodeSection bodies) rest content after i e h = omega (arith, i)
no_content (DataSection segments) rest content after i e h = omega (arith, i)

no_sections : (rest body : List ℕ) (sections : List Section) → 0x02 ∷ 0x0b ∷ 0x01 ∷ 0x01 ∷ 0x6d ∷ 0x00 ∷ 0x7f ∷ rest ≡ body → ¬ (IsItems (IsSection false) body sections)
no_sections rest body [] e h = let f = e ∙ h in absurd cc
no_sections rest body (section ∷ sections) e h =
    let front = e ∙ h.2 ∙ ap (λ (l : List ℕ). l ++ h.1) h.3.1 in
    let framed = h.3.2 in
    let after = joined h.3.0 h.1 framed.0 framed.1 _ (tails 0x02 (section_id section) _ (h.3.0 ++ h.1) front) framed.2 in
    let n = number_is framed.0 (framed.1 ++ h.1) (0x01 ∷ 0x01 ∷ 0x6d ∷ 0x00 ∷ 0x7f ∷ rest) 0x0b _ framed.3 (omega arith) after in
    no_content section rest framed.1 h.1 (heads 0x02 (section_id section) _ (h.3.0 ++ h.1) front) (sym n.1) framed.4

pub returns : goal.returns
returns c = record {
  group_of_items = λ rest entry. no_group 0x7f (omega arith) rest _ [] entry (sym (append-nil _));
  group_of_names = λ rest entry. no_group 0x7e (omega arith) rest _ [] entry (sym (append-nil _));
  padded_name = no_padded;
  whole_module = λ sections m. no_sections _ m.body sections (ap (λ (l : List ℕ). drop 8 l) m.begins) m.holds;
}
