-- Judging entries as they are read.
use Rattle.std.specs.Prelude.{◌≡◌, ◌⊎◌, ⊤, ℕ, suc, ◌<◌, ◌≤◌, List, [], ◌∷◌, length, Some, None, Result, Ok, Err, Bool, true}
use Rattle.std.proofs.Common.{inl, inr}
use Rattle.std.specs.List.{AllByRecursion}
use Rattle.std.proofs.Math.Nat.{not-le_of_lt}
use Rattle.wasm_core_types.specs.Limits as core
use Rattle.wasm_core_read.specs.Input.{Input, IsWithin}
use Rattle.wasm_core_read.specs.Reading.{ReadingOf, seen_at}
use Rattle.wasm_core_read.specs.TypeReading.{items_at}
use Rattle.wasm_spec.specs.Features.{Features}
use Rattle.wasm_spec.specs.Limits.{Imports, Types, most, total_of_types}
use Rattle.wasm_spec.specs.Syntax.{CompactItems, CompactNames}
use Rattle.wasm_spec.specs.Trees.{DefType}
use Rattle.wasm_validity.specs.Context.{Context, after, after_all, item_at, named_in_element, with_functions}
use Rattle.wasm_validity.specs.Entries.{Entry, OfType, OfImport, OfFunction, OfTable, OfMemory, OfTag, OfGlobal, OfExport, OfElement, OfData}
use Rattle.wasm_validity.specs.Rules.{Keeps, KeepRules, keeps_table, may_leave, measures, Passes, PassesByTypes, IsWithin as IsWithinLimits, KeepLimits, PassLimit}
use Rattle.wasm_validity.specs.TypeRules.{is_value}
use Rattle.wasmparser_error.specs.declared.error.Error.{Error}
use Rattle.wasmparser_error.specs.declared.error.ErrorKind.{ErrorKind}
use Rattle.wasmparser_error.specs.declared.error.ErrorKind.TheVariants as kinds
use Rattle.wasmparser_payloads.specs.EntryReading.{EntryReading}
use Rattle.wasmparser_module_types.specs.ModuleTypes.{IsGroupRightSoFar}
use Rattle.wasmparser_constants.specs.Steps.{BeginsRightly}
use Rattle.wasmparser_module_state.specs.Initialisers.{BeginsFilled, BeginsPlaced}
use Rattle.wasmparser_module_state.specs.History.{EnterAll, OneFindsNoRoom, FindsNoRoom}
use Rattle.wasmparser_readers.specs.Sections.{Left, left_items}
use Rattle.wasmparser_types.specs.Index.{packable}

-- An entry for which memory ran out keeps this. Functions, memories and tags keep all rules and limits. Tables and globals keep the limits and the rule on their
-- type, and their initialiser is right up to an operator of it. Data segments keep the limits, and are right up to an operator of their address. Element segments
-- keep the limits; exports do too, and may name their item. Imports are few enough. Groups of types keep the limits but that on depth, are allowed, and refer to
-- types that are there. Other entries take no memory.
abbrev pub IsRightSoFar : Features → Context → Entry → Type 0
IsRightSoFar features cx (OfType group) = IsGroupRightSoFar features cx.types cx.groups group
IsRightSoFar features cx (OfImport entry) = suc cx.imports ≤ most Imports
IsRightSoFar features cx (OfFunction index) = Keeps features cx (OfFunction index) × IsWithinLimits cx (OfFunction index)
IsRightSoFar features cx (OfTable table) = (keeps_table features cx table.type ≡ true) × IsWithinLimits cx (OfTable table) × BeginsFilled features cx table.initialiser
IsRightSoFar features cx (OfMemory type) = Keeps features cx (OfMemory type) × IsWithinLimits cx (OfMemory type)
IsRightSoFar features cx (OfTag index) = Keeps features cx (OfTag index) × IsWithinLimits cx (OfTag index)
IsRightSoFar features cx (OfGlobal global) = (is_value features cx global.type.value_type ≡ true) × IsWithinLimits cx (OfGlobal global) × BeginsRightly features cx global.initialiser
IsRightSoFar features cx (OfExport export) = (may_leave features (item_at cx export.kind export.index) ≡ true) × IsWithinLimits cx (OfExport export)
IsRightSoFar features cx (OfElement segment) = IsWithinLimits cx (OfElement segment)
IsRightSoFar features cx (OfData segment) = IsWithinLimits cx (OfData segment) × BeginsPlaced features cx segment.mode
IsRightSoFar features cx _ = ⊥

-- memory ran out for one of these entries, and those before it keep all rules and limits
abbrev pub OneRunsOut : Features → Context → List Entry → Type 0
OneRunsOut features cx [] = ⊥
OneRunsOut features cx (entry ∷ entries) = IsRightSoFar features cx entry ⊎ (Keeps features cx entry × IsWithinLimits cx entry × OneRunsOut features (after cx entry) entries)

-- what a refusal of an entry names
abbrev pub NamesEntry : Features → Context → List DefType → Entry → ErrorKind → Type 0
NamesEntry features cx held entry kinds.Invalid = ¬ (Keeps features cx entry)
NamesEntry features cx held entry (kinds.Limit l) = Passes (core.limit l) (measures cx entry) ⊎ PassesByTypes (core.limit l) cx entry
NamesEntry features cx held entry kinds.Total = FindsNoRoom cx held entry
NamesEntry features cx held entry kinds.Memory = IsRightSoFar features cx entry
NamesEntry features cx held entry _ = ⊥

-- where a refusal is: at a place; open where memory ran out, as `add_entries` puts that at the item's place
abbrev pub IsAt : ℕ → ErrorKind → ℕ → Type 0
IsAt place kinds.Memory offset = ⊤
IsAt place _ offset = offset ≡ place

-- an entry was accepted, and is known now
pub record Accepts (features : Features) (old : Context) (entry : Entry) (new : Context) : Type 0 where
  pub rule : Keeps features old entry
  pub limits : IsWithinLimits old entry
  pub known : new ≡ after old entry

-- all is as before, but for items that were imported, and their names
abbrev pub HasItemsMore : Context → Context → Type 0
HasItemsMore old new = new ≡ record old {
  imported = new.imported;
  imported_functions = new.imported_functions;
  tables = new.tables;
  memories = new.memories;
  tags = new.tags;
  imported_globals = new.imported_globals;
  type_size = new.type_size;
}

-- All of what was declared is so, and some of these functions may be.
pub record MayDeclare (functions : List ℕ) (old new : ℕ → Bool) : Type 0 where
  pub kept : (function : ℕ) → old function ≡ true → new function ≡ true
  pub named : (function : ℕ) → new function ≡ true → with_functions old functions function ≡ true

-- After a refusal all is as before, but the types where the entry is a recursive group, and imported items and their names where it is a group of imports: of
-- these it is open which stand. Where it is an element segment, some of the functions that it names may be declared.
abbrev pub IsLeft : Context → Entry → Context → Type 0
IsLeft old (OfType group) new = new ≡ record old { types = new.types; groups = new.groups }
IsLeft old (OfImport (CompactItems origin items)) new = HasItemsMore old new
IsLeft old (OfImport (CompactNames origin type names)) new = HasItemsMore old new
IsLeft old (OfElement segment) new = (new ≡ record old { declared = new.declared }) × MayDeclare (named_in_element segment) old.declared new.declared
IsLeft old _ new = new ≡ old

-- The result of a call that validates an entry and adds it. held: what the list of types held before.
abbrev pub Adds : Features → Context → List DefType → Entry → ℕ → Result (Unit {0}) Error → Context → Type 0
Adds features old held entry place (Ok x) new = Accepts features old entry new
Adds features old held entry place (Err e) new = NamesEntry features old held entry e.kind × IsAt place e.kind e.offset × IsLeft old entry new

-- one of these type indexes can't be packed
abbrev pub HasLarge : List ℕ → Type 0
HasLarge [] = ⊥
HasLarge (index ∷ indexes) = (packable ≤ index) ⊎ HasLarge indexes

-- none is past the total of types where all are below it
pub has_none : (indexes : List ℕ) → AllByRecursion (λ index. index < total_of_types) indexes → HasLarge indexes → ⊥
has_none [] small large = large
has_none (index ∷ indexes) small (inl large) = not-le_of_lt small.0 large
has_none (index ∷ indexes) small (inr large) = has_none indexes small.1 large

-- The entry of an item is made of what contracts see of it, and so reads as the item does. An item with a type index that can't be packed breaks
-- its rule in any context within the limit on types.
pub record IsMadeOf {X A : Type 0} (form : X → A) (indexes : A → List ℕ) (form_at : Features → ReadingOf A) (entry : X → Entry) (entry_at : EntryReading) : Type 0 where
  pub made : A → Entry
  pub is : (x : X) → entry x ≡ made (form x)
  pub reads : (features : Features) (bytes : List ℕ) → entry_at features bytes ≡ seen_at made (form_at features) bytes
  pub breaks : (features : Features) (cx : Context) (a : A) → length cx.types ≤ most Types → HasLarge (indexes a) → ¬ (Keeps features cx (made a))

-- The rest of a section reads as entries that keep the rules and limits. new, new_held: what is known, and what the list of types holds, after them.
pub record Fills (features : Features) (entry_at : EntryReading) (old : Context) (old_held : List DefType) (left : Left) (new : Context) (new_held : List DefType) : Type 0 where
  pub entries : List Entry
  pub reads : left_items entry_at left ≡ Some entries
  pub rules : KeepRules features old entries
  pub limits : KeepLimits old entries
  pub known : new ≡ after_all old entries
  pub entered : EnterAll features old old_held entries new_held

-- entries at the front of what is left of a section, of which something holds
pub record Fronts (entry_at : EntryReading) (left : Left) (Holds : List Entry → Type 0) : Type 0 where
  pub front : List Entry
  pub number : ℕ
  pub rest : List ℕ
  pub among : number ≤ left.count
  pub reads : items_at (entry_at left.input.features) number left.input.rest ≡ Some (front, rest)
  pub holds : Holds front

-- The cause that a refusal of a section's entries names. Memory may run out as an entry is read, where reading one takes memory, or as one is added.
abbrev pub NamesEntries : Features → EntryReading → Type 0 → Context → List DefType → Left → ErrorKind → Type 0
NamesEntries features entry_at takes_memory old held left kinds.Malformed = left_items entry_at left ≡ None
NamesEntries features entry_at takes_memory old held left kinds.Invalid = Fronts entry_at left (λ entries. ¬ (KeepRules features old entries))
NamesEntries features entry_at takes_memory old held left (kinds.Limit l) = Fronts entry_at left (λ entries. PassLimit (core.limit l) old entries)
NamesEntries features entry_at takes_memory old held left kinds.Total = Fronts entry_at left (λ entries. OneFindsNoRoom features old held entries)
NamesEntries features entry_at takes_memory old held left kinds.Memory = (takes_memory × (0 < left.count)) ⊎ Fronts entry_at left (λ entries. OneRunsOut features old entries)
NamesEntries features entry_at takes_memory old held left _ = ⊥

-- The result of a call that validates the entries of a section one by one and adds them, which may take memory to read.
abbrev pub AddsEntries : Features → EntryReading → Type 0 → Context → List DefType → Left → Result (Unit {0}) Error → Context → List DefType → Type 0
AddsEntries features entry_at takes_memory old old_held left (Ok x) new new_held = Fills features entry_at old old_held left new new_held
AddsEntries features entry_at takes_memory old old_held left (Err e) new new_held = NamesEntries features entry_at takes_memory old old_held left e.kind × IsWithin left.input e.offset
