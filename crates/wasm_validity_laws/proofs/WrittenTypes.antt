-- The types of entries that keep the rules are those of the groups that they write.
use Rattle.std.proofs.Common.{◌≡◌, ℕ, suc, List, [], ◌∷◌, ◌++◌, length, map, Some, refl, ap, sym, ◌∙◌, subst, slice_get}
use Rattle.std.proofs.lemmas.List.Concat.{flat_map-append}
use Rattle.std.specs.List.{flat_map}
use Rattle.wasm_spec.proofs.GroupTrees.{Stand, section_stands}
use Rattle.wasm_spec.proofs.SectionTypes.{groups_in_range}
use Rattle.wasm_spec.specs.Features.{Features}
use Rattle.wasm_spec.specs.Groups.{KeepGroupRules}
use Rattle.wasm_spec.specs.ReferenceMaps.{KeepsTypes}
use Rattle.wasm_spec.specs.Syntax.{Section, Custom, TypeSection, ImportSection, FunctionSection, TableSection, MemorySection, TagSection, GlobalSection, ExportSection, StartSection, ElementSection, DataCountSection, CodeSection, DataSection, groups_in as section_groups, imported_by, members, types_in, types_of}
use Rattle.wasm_spec.specs.Trees.{DefType, section_types, type_at, types_from, unrolled}
use Rattle.wasm_spec.specs.Types.{SubType, RecGroup, ExternalType, FuncExternal, TableExternal, MemoryExternal, GlobalExternal, TagExternal}
use Rattle.wasm_validity.specs.Context.{Context, after, after_all, after_item, after_items, at_first}
use Rattle.wasm_validity.specs.Entries.{Entry, OfCustom, OfType, OfImport, OfFunction, OfTable, OfMemory, OfTags, OfTag, OfGlobal, OfExport, OfStart, OfElement, OfDataCount, OfBody, OfData, entries_in, entries_of}
use Rattle.wasm_validity.specs.Rules.{KeepRules}
use Rattle.wasm_validity_laws.specs.Written.{IsInRange, groups_in, written_in}

-- ---- what is known of types

imports_leave : (cx : Context) (types : List (ExternalType ℕ)) → (after_items cx types).types ≡ cx.types
imports_leave cx [] = refl
imports_leave cx (FuncExternal function ∷ types) = imports_leave (after_item cx (FuncExternal function)) types
imports_leave cx (TableExternal type ∷ types) = imports_leave (after_item cx (TableExternal type)) types
imports_leave cx (MemoryExternal type ∷ types) = imports_leave (after_item cx (MemoryExternal type)) types
imports_leave cx (GlobalExternal type ∷ types) = imports_leave (after_item cx (GlobalExternal type)) types
imports_leave cx (TagExternal function ∷ types) = imports_leave (after_item cx (TagExternal function)) types

known_from : (cx : Context) (entries : List Entry) → (after_all cx entries).types ≡ types_from cx.types (groups_in entries)
known_from cx [] = refl
known_from cx (OfCustom name ∷ entries) = known_from cx entries
known_from cx (OfType group ∷ entries) = known_from (after cx (OfType group)) entries
known_from cx (OfImport entry ∷ entries) =
    known_from (after cx (OfImport entry)) entries ∙ ap (λ types. types_from types (groups_in entries)) (imports_leave (record cx { imports = suc cx.imports }) (imported_by entry))
known_from cx (OfFunction index ∷ entries) = known_from (after cx (OfFunction index)) entries
known_from cx (OfTable table ∷ entries) = known_from (after cx (OfTable table)) entries
known_from cx (OfMemory type ∷ entries) = known_from (after cx (OfMemory type)) entries
known_from cx (OfTags ∷ entries) = known_from cx entries
known_from cx (OfTag index ∷ entries) = known_from (after cx (OfTag index)) entries
known_from cx (OfGlobal global ∷ entries) = known_from (after cx (OfGlobal global)) entries
known_from cx (OfExport export ∷ entries) = known_from (after cx (OfExport export)) entries
known_from cx (OfStart function ∷ entries) = known_from cx entries
known_from cx (OfElement segment ∷ entries) = known_from (after cx (OfElement segment)) entries
known_from cx (OfDataCount count ∷ entries) = known_from (after cx (OfDataCount count)) entries
known_from cx (OfBody body ∷ entries) = known_from cx entries
known_from cx (OfData segment ∷ entries) = known_from (after cx (OfData segment)) entries

pub known_types : (entries : List Entry) → (after_all at_first entries).types ≡ section_types (groups_in entries)
known_types entries = known_from at_first entries

-- ---- rules

rules_from : (features : Features) (cx : Context) (entries : List Entry) → KeepRules features cx entries → KeepGroupRules features cx.types (groups_in entries)
rules_from features cx [] keep = tt
rules_from features cx (OfCustom name ∷ entries) keep = rules_from features cx entries keep.1
rules_from features cx (OfType group ∷ entries) keep = (keep.0.rules, rules_from features (after cx (OfType group)) entries keep.1)
rules_from features cx (OfImport entry ∷ entries) keep =
    subst (λ (types : List DefType). KeepGroupRules features types (groups_in entries)) (imports_leave (record cx { imports = suc cx.imports }) (imported_by entry))
    (rules_from features (after cx (OfImport entry)) entries keep.1)
rules_from features cx (OfFunction index ∷ entries) keep = rules_from features (after cx (OfFunction index)) entries keep.1
rules_from features cx (OfTable table ∷ entries) keep = rules_from features (after cx (OfTable table)) entries keep.1
rules_from features cx (OfMemory type ∷ entries) keep = rules_from features (after cx (OfMemory type)) entries keep.1
rules_from features cx (OfTags ∷ entries) keep = rules_from features cx entries keep.1
rules_from features cx (OfTag index ∷ entries) keep = rules_from features (after cx (OfTag index)) entries keep.1
rules_from features cx (OfGlobal global ∷ entries) keep = rules_from features (after cx (OfGlobal global)) entries keep.1
rules_from features cx (OfExport export ∷ entries) keep = rules_from features (after cx (OfExport export)) entries keep.1
rules_from features cx (OfStart function ∷ entries) keep = rules_from features cx entries keep.1
rules_from features cx (OfElement segment ∷ entries) keep = rules_from features (after cx (OfElement segment)) entries keep.1
rules_from features cx (OfDataCount count ∷ entries) keep = rules_from features (after cx (OfDataCount count)) entries keep.1
rules_from features cx (OfBody body ∷ entries) keep = rules_from features cx entries keep.1
rules_from features cx (OfData segment ∷ entries) keep = rules_from features (after cx (OfData segment)) entries keep.1

pub group_rules : (features : Features) (entries : List Entry) → KeepRules features at_first entries → KeepGroupRules features [] (groups_in entries)
group_rules features entries keep = rules_from features at_first entries keep

-- ---- types by index

pub stands : (features : Features) (entries : List Entry) → KeepRules features at_first entries → Stand (written_in entries) (after_all at_first entries).types
stands features entries keep =
    subst (Stand (written_in entries)) (sym (known_types entries)) (section_stands (groups_in entries) (groups_in_range features [] (groups_in entries) (group_rules features entries keep)))

pub unroll_as_written : (features : Features) (entries : List Entry) → KeepRules features at_first entries → KeepsTypes (type_at (after_all at_first entries).types) (slice_get (written_in entries)) unrolled
unroll_as_written features entries keep = (stands features entries keep).unrolls

pub written_in_range : (features : Features) (entries : List Entry) (index : ℕ) (type : SubType ℕ) → KeepRules features at_first entries → slice_get (written_in entries) index ≡ Some type
    → IsInRange (length (after_all at_first entries).types) type
written_in_range features entries index type keep at = (stands features entries keep).in_range index type at

-- ---- sections

groups_of_two : (a b : List Entry) → groups_in (a ++ b) ≡ groups_in a ++ groups_in b
groups_of_two [] b = refl
groups_of_two (OfCustom name ∷ a) b = groups_of_two a b
groups_of_two (OfType group ∷ a) b = ap (λ groups. group ∷ groups) (groups_of_two a b)
groups_of_two (OfImport entry ∷ a) b = groups_of_two a b
groups_of_two (OfFunction index ∷ a) b = groups_of_two a b
groups_of_two (OfTable table ∷ a) b = groups_of_two a b
groups_of_two (OfMemory type ∷ a) b = groups_of_two a b
groups_of_two (OfTags ∷ a) b = groups_of_two a b
groups_of_two (OfTag index ∷ a) b = groups_of_two a b
groups_of_two (OfGlobal global ∷ a) b = groups_of_two a b
groups_of_two (OfExport export ∷ a) b = groups_of_two a b
groups_of_two (OfStart function ∷ a) b = groups_of_two a b
groups_of_two (OfElement segment ∷ a) b = groups_of_two a b
groups_of_two (OfDataCount count ∷ a) b = groups_of_two a b
groups_of_two (OfBody body ∷ a) b = groups_of_two a b
groups_of_two (OfData segment ∷ a) b = groups_of_two a b

no_groups : {A : Type 0} (make : A → Entry) → ((x : A) (entries : List Entry) → groups_in (make x ∷ entries) ≡ groups_in entries) → (xs : List A) → groups_in (map make xs) ≡ []
no_groups make none [] = refl
no_groups make none (x ∷ xs) = none x (map make xs) ∙ no_groups make none xs

own_groups : (groups : List (RecGroup ℕ)) → groups_in (map (λ x. OfType x) groups) ≡ groups
own_groups [] = refl
own_groups (group ∷ groups) = ap (λ others. group ∷ others) (own_groups groups)

groups_of_one : (section : Section) → groups_in (entries_in section) ≡ section_groups section
groups_of_one (Custom name contents) = refl
groups_of_one (TypeSection groups) = own_groups groups
groups_of_one (ImportSection imports) = no_groups (λ x. OfImport x) (λ x entries. refl) imports
groups_of_one (FunctionSection indexes) = no_groups (λ x. OfFunction x) (λ x entries. refl) indexes
groups_of_one (TableSection tables) = no_groups (λ x. OfTable x) (λ x entries. refl) tables
groups_of_one (MemorySection types) = no_groups (λ x. OfMemory x) (λ x entries. refl) types
groups_of_one (TagSection indexes) = no_groups (λ x. OfTag x) (λ x entries. refl) indexes
groups_of_one (GlobalSection globals) = no_groups (λ x. OfGlobal x) (λ x entries. refl) globals
groups_of_one (ExportSection exports) = no_groups (λ x. OfExport x) (λ x entries. refl) exports
groups_of_one (StartSection function) = refl
groups_of_one (ElementSection segments) = no_groups (λ x. OfElement x) (λ x entries. refl) segments
groups_of_one (DataCountSection count) = refl
groups_of_one (CodeSection bodies) = no_groups (λ x. OfBody x) (λ x entries. refl) bodies
groups_of_one (DataSection segments) = no_groups (λ x. OfData x) (λ x entries. refl) segments

pub section_groups_are : (sections : List Section) → groups_in (entries_of sections) ≡ flat_map section_groups sections
section_groups_are [] = refl
section_groups_are (section ∷ sections) =
    groups_of_two (entries_in section) (entries_of sections) ∙ ap (λ groups. groups ++ groups_in (entries_of sections)) (groups_of_one section)
    ∙ ap (λ groups. section_groups section ++ groups) (section_groups_are sections)

flattened : (sections : List Section) → types_of sections ≡ flat_map members (flat_map section_groups sections)
flattened [] = refl
flattened (section ∷ sections) = ap (λ types. types_in section ++ types) (flattened sections) ∙ sym (flat_map-append members (section_groups section) (flat_map section_groups sections))

pub section_written : (sections : List Section) → types_of sections ≡ written_in (entries_of sections)
section_written sections = flattened sections ∙ ap (flat_map members) (sym (section_groups_are sections))
