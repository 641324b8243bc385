-- Contents of sections are read as their forms say.
use Rattle.std.proofs.Common.{◌≡◌, ℕ, Bool, List, [], ◌++◌, length, Option, Some, refl, sym, ap, subst, ◌∙◌, inl, inr}
use Rattle.std.proofs.lemmas.Bool.Decides.{eqb_tells}
use Rattle.wasm_spec.specs.Bytes.{AreBytes, IsU32, IsList}
use Rattle.wasm_spec.specs.Grammar.{section_id, IsContent}
use Rattle.wasm_spec.specs.ModuleParts.{IsImport, IsTable, IsGlobal, IsExport, IsElementSegment, IsDataSegment, IsBody}
use Rattle.wasm_spec.specs.Syntax.{Section, Custom, TypeSection, ImportSection, FunctionSection, TableSection, MemorySection, TagSection, GlobalSection, ExportSection, StartSection, ElementSection, DataCountSection, CodeSection, DataSection, groups_in, functions_in, bodies_in}
use Rattle.wasm_spec.specs.TypeGrammar.{IsRecGroup, IsMemoryType, IsTagType}
use Rattle.wasm_spec.specs.Types.{RecGroup}
use Rattle.wasm_core_read.specs.Laws.{ReadsExactly, FillsExactly, IsContentOf}
use Rattle.wasm_core_read.specs.ModuleReading.{content_or, no_section, others_of, content_of}
use Rattle.wasm_core_read.specs.PartReading.{body_at, import_at, table_at, global_at, export_at, element_at, data_at}
use Rattle.wasm_core_read.specs.Reading.{ReadingOf, unsigned_at, name_at, filled}
use Rattle.wasm_core_read.specs.TypeReading.{list_at, rec_group_at, limits_at, tag_type_at}
use Rattle.wasm_core_read.proofs.ExternalForms.{reads_limits, reads_tag_type}
use Rattle.wasm_core_read.proofs.Forms.{bind_some, some_is, rest_bytes, reads_unsigned, reads_name, reads_body, filled_some, fills_filled}
use Rattle.wasm_core_read.proofs.ListForms.{reads_list, list_count}
use Rattle.wasm_core_read.proofs.PartForms.{reads_import, reads_table, reads_global, reads_export, reads_element, reads_data}
use Rattle.wasm_core_read.proofs.TypeForms.{reads_rec_group}

abbrev Contents : Type 0
Contents = ℕ → List ℕ → Option Section

-- the contents that are read are those of sections of their ids
abbrev FindsContents : Bool → Contents → Type 0
FindsContents compact contents = (id : ℕ) (bytes : List ℕ) (section : Section) → AreBytes bytes → contents id bytes ≡ Some section → IsContentOf compact id bytes section

content : {A : Type 0} (compact : Bool) (wanted : ℕ) (IsA : List ℕ → A → Type 0) (a_at : ReadingOf A) (view : A → Section) (others : Contents) → ReadsExactly IsA a_at
    → ((bytes : List ℕ) (a : A) → IsA bytes a → IsContentOf compact wanted bytes (view a)) → FindsContents compact others → FindsContents compact (content_or wanted a_at view others)
content compact wanted IsA a_at view others law is found id bytes section are e =
    elim (eqb_tells id wanted) [
      | inl (t, same) ↦
          let a = bind_some (filled (a_at bytes)) (λ a. Some (view a)) section (rw t at e) in
          let f = (fills_filled IsA a_at law).found bytes a.0 are a.1 in
          subst (λ q. IsContentOf compact id bytes q) (some_is (view a.0) section a.2) (subst (λ (n : ℕ). IsContentOf compact n bytes (view a.0)) (sym same) (is bytes a.0 f))
      | inr (t, other) ↦ found id bytes section are (rw t at e)
    ]

nothing : (compact : Bool) → FindsContents compact no_section
nothing compact id bytes section are e = absurd cc

others_found : (compact : Bool) → FindsContents compact (others_of compact)
others_found compact =
    content compact 1 (IsList IsRecGroup) (list_at rec_group_at) (λ x. TypeSection x) _ (reads_list IsRecGroup rec_group_at reads_rec_group) (λ bytes x h. (h, refl))
    (content compact 2 (IsList (IsImport compact)) (list_at (import_at compact)) (λ x. ImportSection x) _ (reads_list (IsImport compact) (import_at compact) (reads_import compact)) (λ bytes x h. (h, refl))
    (content compact 3 (IsList IsU32) (list_at (unsigned_at 32)) (λ x. FunctionSection x) _ (reads_list IsU32 (unsigned_at 32) (reads_unsigned 32)) (λ bytes x h. (h, refl))
    (content compact 4 (IsList IsTable) (list_at table_at) (λ x. TableSection x) _ (reads_list IsTable table_at reads_table) (λ bytes x h. (h, refl))
    (content compact 5 (IsList IsMemoryType) (list_at limits_at) (λ x. MemorySection x) _ (reads_list IsMemoryType limits_at reads_limits) (λ bytes x h. (h, refl))
    (content compact 6 (IsList IsGlobal) (list_at global_at) (λ x. GlobalSection x) _ (reads_list IsGlobal global_at reads_global) (λ bytes x h. (h, refl))
    (content compact 7 (IsList IsExport) (list_at export_at) (λ x. ExportSection x) _ (reads_list IsExport export_at reads_export) (λ bytes x h. (h, refl))
    (content compact 8 IsU32 (unsigned_at 32) (λ x. StartSection x) _ (reads_unsigned 32) (λ bytes x h. (h, refl))
    (content compact 9 (IsList IsElementSegment) (list_at element_at) (λ x. ElementSection x) _ (reads_list IsElementSegment element_at reads_element) (λ bytes x h. (h, refl))
    (content compact 10 (IsList IsBody) (list_at body_at) (λ x. CodeSection x) _ (reads_list IsBody body_at reads_body) (λ bytes x h. (h, refl))
    (content compact 11 (IsList IsDataSegment) (list_at data_at) (λ x. DataSection x) _ (reads_list IsDataSegment data_at reads_data) (λ bytes x h. (h, refl))
    (content compact 12 IsU32 (unsigned_at 32) (λ x. DataCountSection x) _ (reads_unsigned 32) (λ bytes x h. (h, refl))
    (content compact 13 (IsList IsTagType) (list_at tag_type_at) (λ x. TagSection x) no_section (reads_list IsTagType tag_type_at reads_tag_type) (λ bytes x h. (h, refl))
    (nothing compact)))))))))))))

content_found : (compact : Bool) (id : ℕ) (bytes : List ℕ) (section : Section) → AreBytes bytes → content_of compact id bytes ≡ Some section → IsContentOf compact id bytes section
unfolding content_of
content_found compact id bytes section are e =
    elim (eqb_tells id 0) [
      | inl (t, same) ↦
          let a = bind_some (name_at bytes) (λ name. Some (Custom name.0 name.1)) section (rw t at e) in
          let n = reads_name.found bytes a.0.0 a.0.1 are a.1 in
          subst (λ q. IsContentOf compact id bytes q) (some_is (Custom a.0.0 a.0.1) section a.2) ((n.0, a.0.1, n.1, n.2, (rest_bytes bytes n.0 a.0.1 are n.1, refl)), sym same)
      | inr (t, other) ↦ others_found compact id bytes section are (rw t at e)
    ]

whole : {A : Type 0} (IsA : List ℕ → A → Type 0) (a_at : ReadingOf A) (bytes : List ℕ) (a : A) → ReadsExactly IsA a_at → IsA bytes a → filled (a_at bytes) ≡ Some a
whole IsA a_at bytes a law h = (fills_filled IsA a_at law).again bytes a h

pub content_again : (compact : Bool) (bytes : List ℕ) (section : Section) → IsContent compact bytes section → content_of compact (section_id section) bytes ≡ Some section
unfolding content_of
content_again compact bytes (Custom name contents) h =
    let split : bytes ≡ h.0 ++ contents = rw h.4.1 h.2 in
    ap (λ (l : List ℕ). content_of compact 0 l) split ∙ rw (reads_name.again h.0 name contents h.3) refl
content_again compact bytes (TypeSection x) h = rw (whole (IsList IsRecGroup) (list_at rec_group_at) bytes x (reads_list IsRecGroup rec_group_at reads_rec_group) h) refl
content_again compact bytes (ImportSection x) h = rw (whole (IsList (IsImport compact)) (list_at (import_at compact)) bytes x (reads_list (IsImport compact) (import_at compact) (reads_import compact)) h) refl
content_again compact bytes (FunctionSection x) h = rw (whole (IsList IsU32) (list_at (unsigned_at 32)) bytes x (reads_list IsU32 (unsigned_at 32) (reads_unsigned 32)) h) refl
content_again compact bytes (TableSection x) h = rw (whole (IsList IsTable) (list_at table_at) bytes x (reads_list IsTable table_at reads_table) h) refl
content_again compact bytes (MemorySection x) h = rw (whole (IsList IsMemoryType) (list_at limits_at) bytes x (reads_list IsMemoryType limits_at reads_limits) h) refl
content_again compact bytes (GlobalSection x) h = rw (whole (IsList IsGlobal) (list_at global_at) bytes x (reads_list IsGlobal global_at reads_global) h) refl
content_again compact bytes (ExportSection x) h = rw (whole (IsList IsExport) (list_at export_at) bytes x (reads_list IsExport export_at reads_export) h) refl
content_again compact bytes (StartSection x) h = rw (whole IsU32 (unsigned_at 32) bytes x (reads_unsigned 32) h) refl
content_again compact bytes (ElementSection x) h = rw (whole (IsList IsElementSegment) (list_at element_at) bytes x (reads_list IsElementSegment element_at reads_element) h) refl
content_again compact bytes (CodeSection x) h = rw (whole (IsList IsBody) (list_at body_at) bytes x (reads_list IsBody body_at reads_body) h) refl
content_again compact bytes (DataSection x) h = rw (whole (IsList IsDataSegment) (list_at data_at) bytes x (reads_list IsDataSegment data_at reads_data) h) refl
content_again compact bytes (DataCountSection x) h = rw (whole IsU32 (unsigned_at 32) bytes x (reads_unsigned 32) h) refl
content_again compact bytes (TagSection x) h = rw (whole (IsList IsTagType) (list_at tag_type_at) bytes x (reads_list IsTagType tag_type_at reads_tag_type) h) refl

pub fills_content : (compact : Bool) (id : ℕ) → FillsExactly (IsContentOf compact id) (content_of compact id)
fills_content compact id = record { found = content_found compact id; again = λ bytes section h. rw (← h.1) (content_again compact bytes section h.0) }

-- ---- the ids and the counts that contents have

-- the section of an id has it
abbrev HasIds : Contents → Type 0
HasIds contents = (id : ℕ) (bytes : List ℕ) (section : Section) → contents id bytes ≡ Some section → section_id section ≡ id

has_id : {A : Type 0} (wanted : ℕ) (a_at : ReadingOf A) (view : A → Section) (others : Contents) → ((a : A) → section_id (view a) ≡ wanted) → HasIds others → HasIds (content_or wanted a_at view others)
has_id wanted a_at view others is rest id bytes section e =
    elim (eqb_tells id wanted) [
      | inl (t, same) ↦
          let a = bind_some (filled (a_at bytes)) (λ a. Some (view a)) section (rw t at e) in
          ap section_id (sym (some_is (view a.0) section a.2)) ∙ is a.0 ∙ sym same
      | inr (t, other) ↦ rest id bytes section (rw t at e)
    ]

no_id : HasIds no_section
no_id id bytes section e = absurd cc

other_ids : (compact : Bool) → HasIds (others_of compact)
other_ids compact =
    has_id 1 (list_at rec_group_at) (λ x. TypeSection x) _ (λ x. refl)
    (has_id 2 (list_at (import_at compact)) (λ x. ImportSection x) _ (λ x. refl)
    (has_id 3 (list_at (unsigned_at 32)) (λ x. FunctionSection x) _ (λ x. refl)
    (has_id 4 (list_at table_at) (λ x. TableSection x) _ (λ x. refl)
    (has_id 5 (list_at limits_at) (λ x. MemorySection x) _ (λ x. refl)
    (has_id 6 (list_at global_at) (λ x. GlobalSection x) _ (λ x. refl)
    (has_id 7 (list_at export_at) (λ x. ExportSection x) _ (λ x. refl)
    (has_id 8 (unsigned_at 32) (λ x. StartSection x) _ (λ x. refl)
    (has_id 9 (list_at element_at) (λ x. ElementSection x) _ (λ x. refl)
    (has_id 10 (list_at body_at) (λ x. CodeSection x) _ (λ x. refl)
    (has_id 11 (list_at data_at) (λ x. DataSection x) _ (λ x. refl)
    (has_id 12 (unsigned_at 32) (λ x. DataCountSection x) _ (λ x. refl)
    (has_id 13 (list_at tag_type_at) (λ x. TagSection x) no_section (λ x. refl)
    no_id))))))))))))

pub content_id : (compact : Bool) (id : ℕ) (bytes : List ℕ) (section : Section) → content_of compact id bytes ≡ Some section → section_id section ≡ id
unfolding content_of
content_id compact id bytes section e =
    elim (eqb_tells id 0) [
      | inl (t, same) ↦
          let a = bind_some (name_at bytes) (λ name. Some (Custom name.0 name.1)) section (rw t at e) in
          ap section_id (sym (some_is (Custom a.0.0 a.0.1) section a.2)) ∙ sym same
      | inr (t, other) ↦ other_ids compact id bytes section (rw t at e)
    ]

-- The numbers that lists of types, functions and bodies begin with are those of their items.
pub groups_count : (compact : Bool) (bytes : List ℕ) (groups : List (RecGroup ℕ)) → content_of compact 1 bytes ≡ Some (TypeSection groups) → (after : List ℕ) × (unsigned_at 32 bytes ≡ Some (length groups, after))
unfolding content_of
groups_count compact bytes groups e =
    let a = bind_some (filled (list_at rec_group_at bytes)) (λ groups. Some (TypeSection groups)) (TypeSection groups) e in
    let same : a.0 ≡ groups = ap groups_in (some_is (TypeSection a.0) (TypeSection groups) a.2) in
    list_count rec_group_at bytes groups [] (filled_some (list_at rec_group_at bytes) groups (a.1 ∙ ap (λ x. Some x) same))

pub functions_count : (compact : Bool) (bytes : List ℕ) (indexes : List ℕ) → content_of compact 3 bytes ≡ Some (FunctionSection indexes) → (after : List ℕ) × (unsigned_at 32 bytes ≡ Some (length indexes, after))
unfolding content_of
functions_count compact bytes indexes e =
    let a = bind_some (filled (list_at (unsigned_at 32) bytes)) (λ indexes. Some (FunctionSection indexes)) (FunctionSection indexes) e in
    let same : a.0 ≡ indexes = ap functions_in (some_is (FunctionSection a.0) (FunctionSection indexes) a.2) in
    list_count (unsigned_at 32) bytes indexes [] (filled_some (list_at (unsigned_at 32) bytes) indexes (a.1 ∙ ap (λ x. Some x) same))

pub bodies_count : (compact : Bool) (bytes : List ℕ) (bodies : List (List ℕ)) → content_of compact 10 bytes ≡ Some (CodeSection bodies) → (after : List ℕ) × (unsigned_at 32 bytes ≡ Some (length bodies, after))
unfolding content_of
bodies_count compact bytes bodies e =
    let a = bind_some (filled (list_at body_at bytes)) (λ bodies. Some (CodeSection bodies)) (CodeSection bodies) e in
    let same : a.0 ≡ bodies = ap bodies_in (some_is (CodeSection a.0) (CodeSection bodies) a.2) in
    list_count body_at bytes bodies [] (filled_some (list_at body_at bytes) bodies (a.1 ∙ ap (λ x. Some x) same))
