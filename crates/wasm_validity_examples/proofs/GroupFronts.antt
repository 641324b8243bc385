-- Groups of imports at the front of bytes, with their feature and without it.
use Rattle.std.proofs.Common.{◌≡◌, ◌^◌, ◌<◌, ◌≤◌, ℕ, suc, true, false, List, [], ◌∷◌, ◌++◌, length, drop, refl, arith, ap, sym, ◌∙◌, subst, append-nil}
use Rattle.wasm_spec.specs.Bytes.{IsItems, IsName, IsU32}
use Rattle.wasm_spec.specs.Grammar.{IsContent, IsSection, header, section_id}
use Rattle.wasm_spec.specs.ModuleParts.{IsImport}
use Rattle.wasm_spec.specs.Syntax.{ImportEntry, Import, CompactItems, CompactNames, Section, Custom, TypeSection, ImportSection, FunctionSection, TableSection, MemorySection, TagSection, GlobalSection, ExportSection, StartSection, ElementSection, DataCountSection, CodeSection, DataSection}
use Rattle.wasm_spec.specs.TypeGrammar.{IsExternalType, IsMemoryType, kind_code}
use Rattle.wasm_spec.specs.Types.{ExternalType, MemoryExternal, MemoryType, kind_of}
use Rattle.wasm_spec.proofs.Encodings.{one, section, small}
use Rattle.wasm_spec.proofs.WrongEncodings.{after_empty, after_name, heads, joined, number_is, small_kind, tails}
use Rattle.wasm_validity.specs.Entries.{Entry, IsItem, OfBody, OfCustom, OfData, OfDataCount, OfElement, OfExport, OfFunction, OfGlobal, OfImport, OfMemory, OfStart, OfTable, OfTag, OfTags, OfType, entries_of}
use Rattle.wasm_validity.specs.Fronts.{BeginsWith, begun_by, complete, within}

-- ---- with their feature

-- a section of one import, of less than 128 bytes
pub one_import : (size : ℕ) (bytes rest : List ℕ) (entry : ImportEntry) → size < 2 ^ 7 → size ≡ suc (length bytes) → IsImport true bytes entry
    → BeginsWith true (header ++ (0x02 ∷ size ∷ 0x01 ∷ (bytes ++ rest))) (OfImport entry ∷ [])
one_import size bytes rest entry few sized is = complete (record {
  sections = ImportSection (entry ∷ []) ∷ [];
  front = 0x02 ∷ size ∷ 0x01 ∷ bytes;
  rest = rest;
  begins = refl;
  holds = (
    0x02 ∷ size ∷ 0x01 ∷ bytes,
    [],
    sym (append-nil (0x02 ∷ size ∷ 0x01 ∷ bytes)),
    section true (size ∷ []) (0x01 ∷ bytes) (ImportSection (entry ∷ [])) (subst (λ n. IsU32 (size ∷ []) n) sized (small size few)) (one (IsImport true) bytes entry (sym (append-nil bytes)) is),
    refl,
  );
  ordered = (omega arith, tt);
  say = refl;
})

name_m : IsName (0x01 ∷ 0x6d ∷ []) (0x6d ∷ [])
unfolding lib.Utf8.encode
name_m = ((0x01 ∷ [], 0x6d ∷ [], refl, small 1 (omega arith), ((omega arith, tt), refl)), (0x6d ∷ [], (refl, refl)))

name_a : IsName (0x01 ∷ 0x61 ∷ []) (0x61 ∷ [])
unfolding lib.Utf8.encode
name_a = ((0x01 ∷ [], 0x61 ∷ [], refl, small 1 (omega arith), ((omega arith, tt), refl)), (0x61 ∷ [], (refl, refl)))

-- a group of one memory
pub one_memory : (limits : List ℕ) (type : MemoryType) → IsMemoryType limits type
    → IsImport true (0x01 ∷ 0x6d ∷ 0x00 ∷ 0x7f ∷ 0x01 ∷ 0x01 ∷ 0x61 ∷ 0x02 ∷ limits) (CompactItems (0x6d ∷ []) (record { name = 0x61 ∷ []; type = MemoryExternal type } ∷ []))
one_memory limits type is =
    let item : List ℕ = 0x01 ∷ 0x61 ∷ 0x02 ∷ limits in (
      refl,
      (
        0x01 ∷ 0x6d ∷ [],
        0x00 ∷ 0x7f ∷ 0x01 ∷ item,
        refl,
        name_m,
        (0x7f ∷ 0x01 ∷ item, refl, (0x01 ∷ item, refl, (0x01 ∷ [], item, refl, small 1 (omega arith), (item, [], sym (append-nil item), (0x01 ∷ 0x61 ∷ [], 0x02 ∷ limits, refl, name_a, (limits, refl, is)), refl)))),
      ),
    )

-- ---- without it

-- what begins with such a byte is no external type, whatever follows
no_kind : (bytes after rest : List ℕ) (b : ℕ) (type : ExternalType ℕ) → 5 ≤ b → bytes ++ after ≡ b ∷ rest → ¬ (IsExternalType bytes type)
no_kind bytes after rest b type large e h =
    omega (arith, large, small_kind (kind_of type), heads b (kind_code (kind_of type)) rest (h.0 ++ after) (sym e ∙ ap (λ (l : List ℕ). l ++ after) h.1))

-- whatever stands after an empty name is a kind
no_group : (b : ℕ) → 5 ≤ b → (rest bytes after : List ℕ) (entry : ImportEntry) → 0x01 ∷ 0x6d ∷ 0x00 ∷ b ∷ rest ≡ bytes ++ after → ¬ (IsImport false bytes entry)
no_group b large rest bytes after (Import origin name type) e h =
    let p = after_name h.0 (h.1 ++ after) (0x00 ∷ b ∷ rest) origin 0x6d h.3 (joined bytes after h.0 h.1 _ e h.2) in
    let q = after_empty h.4.0 (h.4.1 ++ after) (b ∷ rest) name h.4.3 (joined h.1 after h.4.0 h.4.1 _ (sym p) h.4.2) in
    no_kind h.4.1 after rest b type large q h.4.4
no_group b large rest bytes after (CompactItems origin items) e h = let f = h.0 in absurd cc
no_group b large rest bytes after (CompactNames origin type names) e h = let f = h.0 in absurd cc

-- a section of one import that begins like a group
no_content : (b : ℕ) → 5 ≤ b → (section : Section) (rest content after : List ℕ) → 2 ≡ section_id section → 0x01 ∷ 0x01 ∷ 0x6d ∷ 0x00 ∷ b ∷ rest ≡ content ++ after → ¬ (IsContent false content section)
no_content b large (ImportSection []) rest content after i e h =
    let n = number_is h.0 (h.1 ++ after) (0x01 ∷ 0x6d ∷ 0x00 ∷ b ∷ rest) 0x01 _ h.3 (omega arith) (joined content after h.0 h.1 _ e h.2) in
    omega (arith, n.0)
no_content b large (ImportSection (entry ∷ entries)) rest content after i e h =
    let n = number_is h.0 (h.1 ++ after) (0x01 ∷ 0x6d ∷ 0x00 ∷ b ∷ rest) 0x01 _ h.3 (omega arith) (joined content after h.0 h.1 _ e h.2) in
    let k = h.4 in
    no_group b large rest k.0 (k.1 ++ after) entry (joined h.1 after k.0 k.1 _ (sym n.1) k.2) k.3
no_content b large (Custom name contents) rest content after i e h = omega (arith, i)
no_content b large (TypeSection groups) rest content after i e h = omega (arith, i)
no_content b large (FunctionSection indexes) rest content after i e h = omega (arith, i)
no_content b large (TableSection tables) rest content after i e h = omega (arith, i)
no_content b large (MemorySection types) rest content after i e h = omega (arith, i)
no_content b large (TagSection indexes) rest content after i e h = omega (arith, i)
no_content b large (GlobalSection globals) rest content after i e h = omega (arith, i)
no_content b large (ExportSection exports) rest content after i e h = omega (arith, i)
no_content b large (StartSection function) rest content after i e h = omega (arith, i)
no_content b large (ElementSection segments) rest content after i e h = omega (arith, i)
no_content b large (DataCountSection count) rest content after i e h = omega (arith, i)
no_content b large (CodeSection bodies) rest content after i e h = omega (arith, i)
no_content b large (DataSection segments) rest content after i e h = omega (arith, i)

-- an item of an import section is an import
only_import : (bytes : List ℕ) (item : Entry) → IsItem false 2 bytes item → (entry : ImportEntry) × IsImport false bytes entry
only_import bytes (OfImport entry) h = (entry, h.1)
only_import bytes (OfType group) h = absurd (omega (arith, h.0))
only_import bytes (OfFunction index) h = absurd (omega (arith, h.0))
only_import bytes (OfTable table) h = absurd (omega (arith, h.0))
only_import bytes (OfMemory type) h = absurd (omega (arith, h.0))
only_import bytes (OfTag index) h = absurd (omega (arith, h.0))
only_import bytes (OfGlobal global) h = absurd (omega (arith, h.0))
only_import bytes (OfExport export) h = absurd (omega (arith, h.0))
only_import bytes (OfElement segment) h = absurd (omega (arith, h.0))
only_import bytes (OfBody body) h = absurd (omega (arith, h.0))
only_import bytes (OfData segment) h = absurd (omega (arith, h.0))
only_import bytes (OfCustom name) h = absurd h
only_import bytes (OfStart function) h = absurd h
only_import bytes (OfDataCount count) h = absurd h
only_import bytes OfTags h = absurd h

module _ (b size : ℕ) (large : 5 ≤ b) (few : size < 2 ^ 7) (others : List ℕ) where
  -- the bytes after the header
  abbrev bytes : List ℕ
  bytes = 0x02 ∷ size ∷ 0x01 ∷ 0x01 ∷ 0x6d ∷ 0x00 ∷ b ∷ others

  -- no section is complete
  no_sections : (front rest : List ℕ) (section : Section) (sections : List Section) → bytes ≡ front ++ rest → ¬ (IsItems (IsSection false) front (section ∷ sections))
  no_sections front rest section sections e h =
      let whole = joined front rest h.0 h.1 _ e h.2 ∙ ap (λ (l : List ℕ). l ++ (h.1 ++ rest)) h.3.1 in
      let framed = h.3.2 in
      let after = joined h.3.0 (h.1 ++ rest) framed.0 framed.1 _ (tails 0x02 (section_id section) _ (h.3.0 ++ (h.1 ++ rest)) whole) framed.2 in
      let n = number_is framed.0 (framed.1 ++ (h.1 ++ rest)) (0x01 ∷ 0x01 ∷ 0x6d ∷ 0x00 ∷ b ∷ others) size _ framed.3 few after in
      no_content b large section others framed.1 (h.1 ++ rest) (heads 0x02 (section_id section) _ (h.3.0 ++ (h.1 ++ rest)) whole) (sym n.1) framed.4

  -- and nothing else stands at the front
  none_complete : (front rest : List ℕ) (sections : List Section) → bytes ≡ front ++ rest → IsItems (IsSection false) front sections → (sections ≡ []) × (front ≡ [])
  none_complete front rest [] e h = (refl, h)
  none_complete front rest (section ∷ sections) e h = absurd (no_sections front rest section sections e h)

  -- no item is read
  none_read : (items : List Entry) (id : ℕ) (encoding rest : List ℕ) → 2 ≡ id → 0x01 ∷ 0x6d ∷ 0x00 ∷ b ∷ others ≡ encoding ++ rest → IsItems (IsItem false id) encoding items → items ≡ []
  none_read [] id encoding rest i e h = refl
  none_read (item ∷ items) id encoding rest i e h =
      let k = subst (λ n. IsItems (IsItem false n) encoding (item ∷ items)) (sym i) h in
      let import = only_import k.0 item k.3 in
      absurd (no_group b large others k.0 (k.1 ++ rest) import.0 (joined encoding rest k.0 k.1 _ e k.2) import.1)

  pub nothing : (entries : List Entry) → BeginsWith false (header ++ bytes) entries → entries ≡ []
  nothing entries (complete c) = let none = none_complete c.front c.rest c.sections (ap (λ (l : List ℕ). drop 8 l) c.begins) c.holds in c.say ∙ ap entries_of none.0
  nothing entries (within w) =
      let front = w.complete in
      let started = w.begun in
      let none = none_complete front.front front.rest front.sections (ap (λ (l : List ℕ). drop 8 l) front.begins) front.holds in
      let whole : bytes ≡ section_id w.like ∷ (started.size_encoding ++ (started.count_encoding ++ (started.encoding ++ started.rest))) =
      ap (λ (l : List ℕ). drop 8 l) front.begins ∙ ap (λ (l : List ℕ). l ++ front.rest) none.1 ∙ started.begins in
      let id : 2 ≡ section_id w.like = heads 0x02 (section_id w.like) _ (started.size_encoding ++ (started.count_encoding ++ (started.encoding ++ started.rest))) whole in
      let after_id = tails 0x02 (section_id w.like) _ (started.size_encoding ++ (started.count_encoding ++ (started.encoding ++ started.rest))) whole in
      let first = number_is started.size_encoding (started.count_encoding ++ (started.encoding ++ started.rest)) (0x01 ∷ 0x01 ∷ 0x6d ∷ 0x00 ∷ b ∷ others) size started.size started.sized few after_id in
      let next = number_is started.count_encoding (started.encoding ++ started.rest) (0x01 ∷ 0x6d ∷ 0x00 ∷ b ∷ others) 0x01 started.stated started.counted (omega arith) (sym first.1) in
      let read : w.items ≡ [] = none_read w.items (section_id w.like) started.encoding started.rest id (sym next.1) started.holds in
      w.say ∙ ap (λ (l : List Entry). l ++ (begun_by (section_id w.like) ++ w.items)) (front.say ∙ ap entries_of none.0) ∙ ap (λ n. begun_by n ++ w.items) (sym id) ∙ read
