-- Groups of imports that share the name of a module, whose items are passed over and read later.
use Rattle.std.specs.List.{AllByRecursion}
use Rattle.std.specs.Prelude.{◌≡◌, ◌<◌, List, [], length, Option, Some, None, Result, Ok, Err}
use Rattle.wasm_core_read.specs.declared.malformed.Malformed.{Malformed}
use Rattle.wasm_core_read.specs.Input.{Input, GoesOn, IsWithin}
use Rattle.wasm_core_read.specs.PartReading.{import_item_at}
use Rattle.wasm_core_read.specs.Reading.{ReadingOf, name_at}
use Rattle.wasm_core_read.specs.TypeReading.{list_at}
use Rattle.wasmparser_types.specs.Index.{packable}
use Rattle.wasmparser_readers.specs.Answers.{HasLargeIndex}
use Rattle.wasmparser_readers.specs.Passing.{passed}
use Rattle.wasmparser_readers.specs.Sections.{Limited, limited_of, left_items}
use Rattle.wasmparser_entries.specs.ImportItems.{items_refs}

abbrev pub all_of : {A : Type 0} → Option (List A) → List A
all_of None = []
all_of (Some xs) = xs

-- the items that a group's reader has before it
abbrev pub items_of : {A : Type 0} → ReadingOf A → Limited → List A
items_of item_at group = all_of (left_items (λ features. item_at) group.left)

-- they read, one after the other
abbrev pub AreRead : {A : Type 0} → ReadingOf A → Limited → Type 0
AreRead item_at group = left_items (λ features. item_at) group.left ≡ Some (items_of item_at group)

-- the group is the list that was passed over, which reads again
abbrev pub IsPassed : {A : Type 0} → ReadingOf A → Input → Input → Limited → Type 0
IsPassed item_at old new group =
    (limited_of (passed old (length new.rest)) ≡ Some group) × (list_at item_at old.rest ≡ Some (items_of item_at group, new.rest)) × AreRead item_at group

-- What a call returned that passes over a list of names.
abbrev pub PassesNames : Input → Input → Result Limited Malformed → Type 0
PassesNames old new (Ok group) = IsPassed name_at old new group × GoesOn old new
PassesNames old new (Err e) = (list_at name_at old.rest ≡ None) × GoesOn old new × IsWithin old e.offset

-- The same of a list of items, or nothing where one has a type index that is too large.
abbrev pub PassesItems : Input → Input → Result (Option Limited) Malformed → Type 0
PassesItems old new (Ok (Some group)) = IsPassed import_item_at old new group × AllByRecursion (λ n. n < packable) (items_refs (items_of import_item_at group)) × GoesOn old new
PassesItems old new (Ok None) = HasLargeIndex items_refs (list_at import_item_at old.rest) × GoesOn old new
PassesItems old new (Err e) = (list_at import_item_at old.rest ≡ None) × GoesOn old new × IsWithin old e.offset
