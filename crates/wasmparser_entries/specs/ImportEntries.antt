-- Entries of import sections of the code as those of the specification, and reading them.
use Rattle.std.specs.List.{AllByRecursion}
use Rattle.std.specs.Prelude.{⊤, ◌≡◌, ◌<◌, ◌==◌, ℕ, Bool, true, false, List, ◌∷◌, length, Option, Some, None, Result, Ok, Err, if◌then◌else◌}
use Rattle.wasm_core_read.specs.declared.malformed.Malformed.{Malformed}
use Rattle.wasm_core_read.specs.Input.{Input, GoesOn, IsWithin}
use Rattle.wasm_core_read.specs.PartReading.{import_item_at}
use Rattle.wasm_core_read.specs.Reading.{name_at}
use Rattle.wasm_core_read.specs.TypeReading.{external_type_at}
use Rattle.wasm_spec.specs.Syntax as spec
use Rattle.wasm_spec.specs.TypeReferences.{external_map}
use Rattle.wasmparser_types.specs.Index.{number_of, packable}
use Rattle.wasmparser_readers.specs.Answers.{HasLargeIndex}
use Rattle.wasmparser_readers.specs.ModuleIndexes.{IsModuleIndex}
use Rattle.wasmparser_readers.specs.Passing.{passed, rest_of}
use Rattle.wasmparser_readers.specs.Sections.{limited_of}
use Rattle.wasmparser_readers.specs.ItemTypes.{type_ref, packed_refs}
use Rattle.wasmparser_entries.specs.declared.imports.Imports.{Imports}
use Rattle.wasmparser_entries.specs.declared.imports.Imports.TheVariants as entries
use Rattle.wasmparser_entries.specs.ImportGroups.{items_of, AreRead}
use Rattle.wasmparser_entries.specs.ImportItems.{items_refs}

-- the entry that a value is, with the items that a group's reader has before it
abbrev pub import_entry : Imports → spec.ImportEntry
import_entry (entries.Single start import) = spec.Import import.module.now import.name.now (external_map number_of (type_ref import.ty))
import_entry (entries.Compact1 origin items) = spec.CompactItems origin.now (items_of import_item_at items)
import_entry (entries.Compact2 origin type names) = spec.CompactNames origin.now (external_map number_of (type_ref type)) (items_of name_at names)

-- the type indexes of an entry that values keep packed
abbrev pub entry_refs : spec.ImportEntry → List ℕ
entry_refs (spec.Import origin name type) = packed_refs type
entry_refs (spec.CompactItems origin items) = items_refs items
entry_refs (spec.CompactNames origin type names) = packed_refs type

-- Each type is named by its place in the module. A group's items, which are read later, do read, and each index in a group can be packed.
abbrev pub IsEntryOfModule : Imports → Type 0
IsEntryOfModule (entries.Single start import) = AllByRecursion IsModuleIndex (packed_refs (type_ref import.ty))
IsEntryOfModule (entries.Compact1 origin items) = AreRead import_item_at items × AllByRecursion (λ n. n < packable) (items_refs (items_of import_item_at items))
IsEntryOfModule (entries.Compact2 origin type names) =
    AreRead name_at names × AllByRecursion IsModuleIndex (packed_refs (type_ref type)) × AllByRecursion (λ n. n < packable) (packed_refs (external_map number_of (type_ref type)))

-- the group of items is what was passed over since here
abbrev pub IsItemsSince : Input → Input → Imports → Type 0
IsItemsSince old new (entries.Compact1 origin items) = limited_of (passed old (length new.rest)) ≡ Some items
IsItemsSince old new _ = ⊥

-- the group of names is what was passed over since a type was read here
abbrev pub IsNamesSince : Input → Input → Imports → Type 0
IsNamesSince old new (entries.Compact2 origin type names) =
    (mid : Input) × (rest_of (external_type_at old.rest) ≡ Some mid.rest) × GoesOn old mid × (limited_of (passed mid (length new.rest)) ≡ Some names)
IsNamesSince old new _ = ⊥

-- the import begins here
abbrev pub IsSingleAt : ℕ → Imports → Type 0
IsSingleAt place (entries.Single start import) = start ≡ place
IsSingleAt place _ = ⊥

-- a single import names the place of the entry; a group's reader stands at the group's list, in the entry's input
abbrev pub IsPlaced : Input → Input → Imports → Type 0
IsPlaced old new (entries.Single start import) = start ≡ old.position
IsPlaced old new (entries.Compact1 origin items) =
    (mid : Input) × (rest_of (name_at old.rest) ≡ Some (0x00 ∷ 0x7f ∷ mid.rest)) × GoesOn old mid × IsItemsSince mid new (entries.Compact1 origin items)
IsPlaced old new (entries.Compact2 origin type names) =
    (mid : Input) × (rest_of (name_at old.rest) ≡ Some (0x00 ∷ 0x7e ∷ mid.rest)) × GoesOn old mid × IsNamesSince mid new (entries.Compact2 origin type names)

abbrev pub IsPlacedIfRead : {E : Type 0} → Input → Input → Result Imports E → Type 0
IsPlacedIfRead old new (Ok entry) = IsPlaced old new entry
IsPlacedIfRead old new (Err e) = ⊤

-- What a call returned that reads an entry, or nothing where one reads that has a type index which is too large.
abbrev pub ReadsEntry : (Imports → Type 0) → Input → Input → Result (Option Imports) Malformed → Option (spec.ImportEntry × List ℕ) → Type 0
ReadsEntry Is old new (Ok (Some entry)) read = (read ≡ Some (import_entry entry, new.rest)) × IsEntryOfModule entry × Is entry × GoesOn old new
ReadsEntry Is old new (Ok None) read = HasLargeIndex entry_refs read × GoesOn old new
ReadsEntry Is old new (Err e) read = (read ≡ None) × GoesOn old new × IsWithin old e.offset

-- the second of the two bytes that a group begins with after its module's name, the first of which is 0
abbrev pub group_code : List ℕ → Option ℕ
group_code (zeroth ∷ code ∷ rest) = if zeroth == 0x00 then Some code else None
group_code _ = None

-- What a call returned that passes over the two bytes, where they are there.
abbrev pub SkipsCode : ℕ → Input → Input → Result Bool Malformed → Type 0
SkipsCode code old new (Ok true) = (old.rest ≡ 0x00 ∷ code ∷ new.rest) × GoesOn old new
SkipsCode code old new (Ok false) = (¬ (group_code old.rest ≡ Some code)) × (new ≡ old)
SkipsCode code old new (Err e) = ⊥
