-- Items of sections as entries: none begins another, and each section that has a list of items is a list of these.
use Rattle.std.proofs.Common.{◌≡◌, ℕ, suc, Bool, List, [], ◌∷◌, ◌++◌, length, Some, None, refl, sym, ap, subst, ◌∙◌}
use Rattle.std.specs.Prelude.{map, if◌then◌else◌, ◌==◌}
use Rattle.std.proofs.lemmas.List.{append_cancel_right}
use Rattle.wasm_spec.specs.Bytes.{IsU32, IsItems, IsList}
use Rattle.wasm_spec.specs.Grammar.{section_id, IsContent}
use Rattle.wasm_spec.specs.ModuleParts.{IsImport, IsTable, IsGlobal, IsExport, IsElementSegment, IsBody, IsDataSegment}
use Rattle.wasm_spec.specs.Syntax as syntax
use Rattle.wasm_spec.specs.Syntax.{Section}
use Rattle.wasm_spec.specs.TypeGrammar.{IsRecGroup, IsMemoryType, IsTagType}
use Rattle.wasm_core_read.specs.Laws.{IsPrefixFree}
use Rattle.wasm_core_read.specs.PartReading.{body_at, import_at, table_at, global_at, export_at, element_at, data_at}
use Rattle.wasm_core_read.specs.Reading.{ReadingOf, seen_at, unsigned_at}
use Rattle.wasm_core_read.specs.TypeReading.{rec_group_at, limits_at, tag_type_at}
use Rattle.wasm_core_read.proofs.ExternalForms.{reads_limits, reads_tag_type}
use Rattle.wasm_core_read.proofs.Forms.{some_is, reads_unsigned, reads_body}
use Rattle.wasm_core_read.proofs.PartForms.{reads_import, reads_table, reads_global, reads_export, reads_element, reads_data}
use Rattle.wasm_core_read.proofs.TypeForms.{reads_rec_group}
use Rattle.wasm_validity.specs.Entries.{Entry, OfCustom, OfType, OfImport, OfFunction, OfTable, OfMemory, OfTags, OfTag, OfGlobal, OfExport, OfStart, OfElement, OfDataCount, OfBody, OfData, entries_in, IsItem}
use Rattle.wasm_validity.specs.Fronts.{begun_by}

-- an item of a section of this id
abbrev item_at : Bool → ℕ → ReadingOf Entry
item_at compact id bytes =
    if id == 1 then seen_at (λ x. OfType x) rec_group_at bytes
    else if id == 2 then seen_at (λ x. OfImport x) (import_at compact) bytes
    else if id == 3 then seen_at (λ x. OfFunction x) (unsigned_at 32) bytes
    else if id == 4 then seen_at (λ x. OfTable x) table_at bytes
    else if id == 5 then seen_at (λ x. OfMemory x) limits_at bytes
    else if id == 6 then seen_at (λ x. OfGlobal x) global_at bytes
    else if id == 7 then seen_at (λ x. OfExport x) export_at bytes
    else if id == 9 then seen_at (λ x. OfElement x) element_at bytes
    else if id == 10 then seen_at (λ x. OfBody x) body_at bytes
    else if id == 11 then seen_at (λ x. OfData x) data_at bytes
    else if id == 13 then seen_at (λ x. OfTag x) tag_type_at bytes
    else None

abbrev IsReadAs : Bool → List ℕ → List ℕ → Entry → ℕ → Type 0
IsReadAs compact bytes rest e id = item_at compact id (bytes ++ rest) ≡ Some (e, rest)

item_again : (compact : Bool) (id : ℕ) (bytes : List ℕ) (e : Entry) (rest : List ℕ) → IsItem compact id bytes e → IsReadAs compact bytes rest e id
item_again compact id bytes (OfType x) rest h = subst (IsReadAs compact bytes rest (OfType x)) (sym h.0) (rw (reads_rec_group.again bytes x rest h.1) refl)
item_again compact id bytes (OfImport x) rest h = subst (IsReadAs compact bytes rest (OfImport x)) (sym h.0) (rw ((reads_import compact).again bytes x rest h.1) refl)
item_again compact id bytes (OfFunction x) rest h = subst (IsReadAs compact bytes rest (OfFunction x)) (sym h.0) (rw ((reads_unsigned 32).again bytes x rest h.1) refl)
item_again compact id bytes (OfTable x) rest h = subst (IsReadAs compact bytes rest (OfTable x)) (sym h.0) (rw (reads_table.again bytes x rest h.1) refl)
item_again compact id bytes (OfMemory x) rest h = subst (IsReadAs compact bytes rest (OfMemory x)) (sym h.0) (rw (reads_limits.again bytes x rest h.1) refl)
item_again compact id bytes (OfTag x) rest h = subst (IsReadAs compact bytes rest (OfTag x)) (sym h.0) (rw (reads_tag_type.again bytes x rest h.1) refl)
item_again compact id bytes (OfGlobal x) rest h = subst (IsReadAs compact bytes rest (OfGlobal x)) (sym h.0) (rw (reads_global.again bytes x rest h.1) refl)
item_again compact id bytes (OfExport x) rest h = subst (IsReadAs compact bytes rest (OfExport x)) (sym h.0) (rw (reads_export.again bytes x rest h.1) refl)
item_again compact id bytes (OfElement x) rest h = subst (IsReadAs compact bytes rest (OfElement x)) (sym h.0) (rw (reads_element.again bytes x rest h.1) refl)
item_again compact id bytes (OfBody x) rest h = subst (IsReadAs compact bytes rest (OfBody x)) (sym h.0) (rw (reads_body.again bytes x rest h.1) refl)
item_again compact id bytes (OfData x) rest h = subst (IsReadAs compact bytes rest (OfData x)) (sym h.0) (rw (reads_data.again bytes x rest h.1) refl)
item_again compact id bytes (OfCustom name) rest h = absurd h
item_again compact id bytes OfTags rest h = absurd h
item_again compact id bytes (OfStart x) rest h = absurd h
item_again compact id bytes (OfDataCount x) rest h = absurd h

pub one_item : (compact : Bool) (id : ℕ) → IsPrefixFree (IsItem compact id)
one_item compact id = λ a b x y v w p q e.
    let both : Some (v, x) ≡ Some (w, y) = sym (item_again compact id a v x p) ∙ ap (item_at compact id) e ∙ item_again compact id b w y q in
    let same = some_is (v, x) (w, y) both in
    let rests : x ≡ y = ap (λ (r : Entry × List ℕ). r.1) same in
    (append_cancel_right a b y (rw rests at e), ap (λ (r : Entry × List ℕ). r.0) same)

-- ---- the content of a section

-- the content is a list of items, which are what the section says after what it says first
pub record IsListed (compact : Bool) (id : ℕ) (content : List ℕ) (entries : List Entry) : Type 0 where
  pub items : List Entry
  pub count_encoding : List ℕ
  pub encoding : List ℕ
  pub parts : content ≡ count_encoding ++ encoding
  pub counted : IsU32 count_encoding (length items)
  pub holds : IsItems (IsItem compact id) encoding items
  pub say : entries ≡ begun_by id ++ items

-- or the sections of this id have no items
pub data IsContentFor (compact : Bool) (id : ℕ) (content : List ℕ) (entries : List Entry) : Type 0 where
  listed : IsListed compact id content entries → IsContentFor compact id content entries
  bare : begun_by id ≡ [] → ((bytes : List ℕ) (e : Entry) → ¬ (IsItem compact id bytes e)) → IsContentFor compact id content entries

items_seen : {A : Type 0} (IsA : List ℕ → A → Type 0) (IsE : List ℕ → Entry → Type 0) (view : A → Entry) → ((bytes : List ℕ) (a : A) → IsA bytes a → IsE bytes (view a))
    → (encoding : List ℕ) (xs : List A) → IsItems IsA encoding xs → IsItems IsE encoding (map view xs)
items_seen IsA IsE view is encoding [] h = h
items_seen IsA IsE view is encoding (x ∷ xs) h = (h.0, h.1, h.2, is h.0 x h.3, items_seen IsA IsE view is h.1 xs h.4)

length_seen : {A B : Type 0} (view : A → B) (xs : List A) → length (map view xs) ≡ length xs
length_seen view [] = refl
length_seen view (x ∷ xs) = ap suc (length_seen view xs)

list_of : {A : Type 0} (compact : Bool) (id : ℕ) (content : List ℕ) (IsA : List ℕ → A → Type 0) (view : A → Entry) (entries : List Entry) (xs : List A) → ((bytes : List ℕ) (a : A) → IsA bytes a → IsItem compact id bytes (view a))
    → entries ≡ begun_by id ++ map view xs → IsList IsA content xs → IsContentFor compact id content entries
list_of compact id content IsA view entries xs is say h = listed (record {
  items = map view xs;
  count_encoding = h.0;
  encoding = h.1;
  parts = h.2;
  counted = subst (IsU32 h.0) (sym (length_seen view xs)) h.3;
  holds = items_seen IsA (IsItem compact id) view is h.1 xs h.4;
  say = say;
})

no_item : (compact : Bool) (id : ℕ) → ((bytes : List ℕ) → item_at compact id bytes ≡ None) → (bytes : List ℕ) (e : Entry) → ¬ (IsItem compact id bytes e)
no_item compact id none bytes e h = let w = sym (none (bytes ++ [])) ∙ item_again compact id bytes e [] h in absurd cc

pub content_for : (compact : Bool) (content : List ℕ) (section : Section) → IsContent compact content section → IsContentFor compact (section_id section) content (entries_in section)
content_for compact content (syntax.Custom name contents) h = bare refl (no_item compact 0 (λ bytes. refl))
content_for compact content (syntax.StartSection x) h = bare refl (no_item compact 8 (λ bytes. refl))
content_for compact content (syntax.DataCountSection x) h = bare refl (no_item compact 12 (λ bytes. refl))
content_for compact content (syntax.TypeSection xs) h = list_of compact 1 content IsRecGroup (λ x. OfType x) _ xs (λ bytes a k. (refl, k)) refl h
content_for compact content (syntax.ImportSection xs) h = list_of compact 2 content (IsImport compact) (λ x. OfImport x) _ xs (λ bytes a k. (refl, k)) refl h
content_for compact content (syntax.FunctionSection xs) h = list_of compact 3 content IsU32 (λ x. OfFunction x) _ xs (λ bytes a k. (refl, k)) refl h
content_for compact content (syntax.TableSection xs) h = list_of compact 4 content IsTable (λ x. OfTable x) _ xs (λ bytes a k. (refl, k)) refl h
content_for compact content (syntax.MemorySection xs) h = list_of compact 5 content IsMemoryType (λ x. OfMemory x) _ xs (λ bytes a k. (refl, k)) refl h
content_for compact content (syntax.TagSection xs) h = list_of compact 13 content IsTagType (λ x. OfTag x) _ xs (λ bytes a k. (refl, k)) refl h
content_for compact content (syntax.GlobalSection xs) h = list_of compact 6 content IsGlobal (λ x. OfGlobal x) _ xs (λ bytes a k. (refl, k)) refl h
content_for compact content (syntax.ExportSection xs) h = list_of compact 7 content IsExport (λ x. OfExport x) _ xs (λ bytes a k. (refl, k)) refl h
content_for compact content (syntax.ElementSection xs) h = list_of compact 9 content IsElementSegment (λ x. OfElement x) _ xs (λ bytes a k. (refl, k)) refl h
content_for compact content (syntax.CodeSection xs) h = list_of compact 10 content IsBody (λ x. OfBody x) _ xs (λ bytes a k. (refl, k)) refl h
content_for compact content (syntax.DataSection xs) h = list_of compact 11 content IsDataSegment (λ x. OfData x) _ xs (λ bytes a k. (refl, k)) refl h
