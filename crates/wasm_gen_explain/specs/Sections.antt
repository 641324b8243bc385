-- Where in a section a place is, and in which section of a module.
use Rattle.std.specs.Prelude.{◌≡◌, ◌≤◌, ◌<◌, ◌⊎◌, ℕ, ◌-◌, List, [], length, Option, Some, None}
use Rattle.wasm_core_read.specs.Input.{Input, GoesOn, end}
use Rattle.wasm_core_read.specs.ModuleReading.{frame_at}
use Rattle.wasm_core_read.specs.PartReading.{import_at, table_at, global_at, export_at, element_at, data_at}
use Rattle.wasm_core_read.specs.Reading.{byte_at, filled, name_at, unsigned_at}
use Rattle.wasm_core_read.specs.TypeReading.{rec_group_at, limits_at, tag_type_at}
use Rattle.wasm_spec.specs.Features.{Features, CompactImports, has}
use Rattle.wasm_spec.specs.TypeReferences.{group_refs}
use Rattle.wasmparser_entries.specs.ImportEntries.{entry_refs}
use Rattle.wasmparser_entries.specs.Entries.{refs_of_element, refs_of_global, refs_of_table}
use Rattle.wasm_gen_explain.specs.Bodies.{IsInCode, PassesBody}
use Rattle.wasm_gen_explain.specs.Lists.{EndsList, StandsInList}
use Rattle.wasm_gen_explain.specs.declared.lists.Found.{Found}
use Rattle.wasm_gen_explain.specs.declared.lists.Found.TheVariants.{Around, Entry, Past}
use Rattle.wasm_gen_explain.specs.declared.place.Place.{Place}
use Rattle.wasm_gen_explain.specs.declared.place.Place.TheVariants as places

-- ---- contents

-- a content that is read whole as something
abbrev pub StandsInWhole : {A : Type 0} → Option A → Input → ℕ → Found → Type 0
StandsInWhole read content offset Around = (read ≡ None) ⊎ (offset < end content)
StandsInWhole read content offset (Entry number) = ⊥
StandsInWhole read content offset Past = (end content ≤ offset) × (¬ (read ≡ None))

-- an entry that names no types that are kept packed
abbrev pub no_refs : {A : Type 0} → A → List ℕ
no_refs x = []

-- where in the content of a section of this id, other than a code section, a place is
pub data FindsIn (content : Input) (offset : ℕ) : ℕ → Found → Type 0 where
  in_custom : {found : Found} → StandsInWhole (name_at content.rest) content offset found → FindsIn content offset 0 found
  in_types : {found : Found} → StandsInList (λ (features : Features). rec_group_at) group_refs content offset found → FindsIn content offset 1 found
  in_imports : {found : Found} → StandsInList (λ (features : Features). import_at (has features CompactImports)) entry_refs content offset found → FindsIn content offset 2 found
  in_functions : {found : Found} → StandsInList (λ (features : Features). unsigned_at 32) no_refs content offset found → FindsIn content offset 3 found
  in_tables : {found : Found} → StandsInList (λ (features : Features). table_at) refs_of_table content offset found → FindsIn content offset 4 found
  in_memories : {found : Found} → StandsInList (λ (features : Features). limits_at) no_refs content offset found → FindsIn content offset 5 found
  in_globals : {found : Found} → StandsInList (λ (features : Features). global_at) refs_of_global content offset found → FindsIn content offset 6 found
  in_exports : {found : Found} → StandsInList (λ (features : Features). export_at) no_refs content offset found → FindsIn content offset 7 found
  in_start : {found : Found} → StandsInWhole (filled (unsigned_at 32 content.rest)) content offset found → FindsIn content offset 8 found
  in_elements : {found : Found} → StandsInList (λ (features : Features). element_at) refs_of_element content offset found → FindsIn content offset 9 found
  in_segments : {found : Found} → StandsInList (λ (features : Features). data_at) no_refs content offset found → FindsIn content offset 11 found
  in_data_count : {found : Found} → StandsInWhole (filled (unsigned_at 32 content.rest)) content offset found → FindsIn content offset 12 found
  in_tags : {found : Found} → StandsInList (λ (features : Features). tag_type_at) no_refs content offset found → FindsIn content offset 13 found
  in_unknown : (id : ℕ) → 14 ≤ id → FindsIn content offset id Around

-- a place is in the content of a section of this id
pub data IsInContent (imported : ℕ) (content : Input) (offset : ℕ) : ℕ → Place → Type 0 where
  in_code : (place : Place) → IsInCode imported content offset place → IsInContent imported content offset 10 place
  around : (id : ℕ) → FindsIn content offset id Around → IsInContent imported content offset id (places.Section id)
  in_entry : (id number : ℕ) → FindsIn content offset id (Entry number) → IsInContent imported content offset id (places.Entry id number)

-- the content of a section of this id ends at a place or before it, with nothing left unread
pub data EndsContent (content : Input) (offset : ℕ) : ℕ → Type 0 where
  code : EndsList (PassesBody offset) content offset → EndsContent content offset 10
  others : (id : ℕ) → FindsIn content offset id Past → EndsContent content offset id

-- ---- sections

-- the next section: its id, its content, and what follows it
pub record IsFrame (old : Input) (id : ℕ) (content : Input) (rest : List ℕ) : Type 0 where
  pub reads : frame_at old.rest ≡ Some ((id, content.rest), rest)
  pub same_features : content.features ≡ old.features
  pub ends : end content ≡ end old - length rest

-- a place is before the content of the next section, which has this id, or the section doesn't read
pub data StopsFrame (old : Input) (offset id : ℕ) : Type 0 where
  unread : (rest : List ℕ) → byte_at old.rest ≡ Some (id, rest) → frame_at old.rest ≡ None → StopsFrame old offset id
  before : (content : Input) (rest : List ℕ) → IsFrame old id content rest → offset < content.position → StopsFrame old offset id

-- a place is within the content of the next section
pub record IsWithinSection (imported : ℕ) (old : Input) (offset : ℕ) (place : Place) : Type 0 where
  pub id : ℕ
  pub content : Input
  pub rest : List ℕ
  pub frame : IsFrame old id content rest
  pub begins : content.position ≤ offset
  pub ends : offset ≤ end content
  pub stands : IsInContent imported content offset id place

-- the next section ends before a place, or at it with nothing left unread
pub record PassesSection (offset : ℕ) (old new : Input) : Type 0 where
  pub id : ℕ
  pub content : Input
  pub frame : IsFrame old id content new.rest
  pub goes_on : GoesOn old new
  pub ends : new.position ≤ offset
  pub whole : (new.position < offset) ⊎ EndsContent content offset id

-- a place is in the next section, or at the end
pub data IsAtSection (imported : ℕ) (old : Input) (offset : ℕ) : Place → Type 0 where
  no_section : byte_at old.rest ≡ None → IsAtSection imported old offset places.End
  at_frame : (id : ℕ) → StopsFrame old offset id → IsAtSection imported old offset (places.Section id)
  within : (place : Place) → IsWithinSection imported old offset place → IsAtSection imported old offset place
