-- Places at an entry or operator that reads, and is refused for an index of a type that is too large to be packed: where an item stops for this reason, rather
-- than for its end, or since it doesn't read.
use Rattle.std.proofs.Common.{inl, inr}
use Rattle.std.specs.Prelude.{⊤, ℕ, List, Option}
use Rattle.wasm_core_read.specs.Input.{Input}
use Rattle.wasm_core_read.specs.Reading.{ReadingOf}
use Rattle.wasm_spec.specs.Features.{Features}
use Rattle.wasmparser_error.specs.declared.error.ErrorKind.{ErrorKind}
use Rattle.wasmparser_error.specs.declared.error.ErrorKind.TheVariants as kinds
use Rattle.wasmparser_operators.specs.OperatorAnswers.{IsOperatorRefusal}
use Rattle.wasm_gen_explain.specs.Bodies.{IsAtBody, IsInBody, IsInCode, in_bodies, in_size, within}
use Rattle.wasm_gen_explain.specs.Items.{Stops}
use Rattle.wasm_gen_explain.specs.Lists.{StandsInList}
use Rattle.wasm_gen_explain.specs.Operators.{IsUnpassed}
use Rattle.wasm_gen_explain.specs.Places.{IsPlace, in_header, in_sections}
use Rattle.wasm_gen_explain.specs.Sections.{FindsIn, in_custom, in_types, in_imports, in_functions, in_tables, in_memories, in_globals, in_exports, in_start, in_elements, in_segments, in_data_count, in_tags, in_unknown, IsAtSection, IsInContent, in_code, around, in_entry, no_section, at_frame}
use Rattle.wasm_gen_explain.specs.Sections as sections
use Rattle.wasm_gen_explain.specs.declared.lists.Found.{Found}
use Rattle.wasm_gen_explain.specs.declared.lists.Found.TheVariants as founds
use Rattle.wasm_gen_explain.specs.declared.place.Place.{Place}
use Rattle.wasm_gen_explain.specs.declared.place.Place.TheVariants as places

-- ---- entries

-- an item that stops at a place
abbrev pub IsLargeItem : {A : Type 0} (indexes : A → List ℕ) (now : Input) (offset : ℕ) (read : Option (A × List ℕ)) → Stops indexes now offset read → Type 0
IsLargeItem indexes now offset read (inl unread) = ⊥
IsLargeItem indexes now offset read (inr (inl large)) = ⊤
IsLargeItem indexes now offset read (inr (inr past)) = ⊥

-- an entry of a list
abbrev pub IsLargeIn : {A : Type 0} (item_at : Features → ReadingOf A) (indexes : A → List ℕ) (content : Input) (offset : ℕ) (found : Found) → StandsInList item_at indexes content offset found → Type 0
IsLargeIn item_at indexes content offset founds.Around h = ⊥
IsLargeIn item_at indexes content offset (founds.Entry number) h = IsLargeItem indexes h.item.now offset (item_at h.item.now.features h.item.now.rest) h.item.stops
IsLargeIn item_at indexes content offset founds.Past h = ⊥

-- an entry of a section of this id
abbrev pub IsLargeEntry : (content : Input) (offset id : ℕ) (found : Found) → FindsIn content offset id found → Type 0
IsLargeEntry content offset id found (in_types h) = IsLargeIn _ _ content offset found h
IsLargeEntry content offset id found (in_imports h) = IsLargeIn _ _ content offset found h
IsLargeEntry content offset id found (in_functions h) = IsLargeIn _ _ content offset found h
IsLargeEntry content offset id found (in_tables h) = IsLargeIn _ _ content offset found h
IsLargeEntry content offset id found (in_memories h) = IsLargeIn _ _ content offset found h
IsLargeEntry content offset id found (in_globals h) = IsLargeIn _ _ content offset found h
IsLargeEntry content offset id found (in_exports h) = IsLargeIn _ _ content offset found h
IsLargeEntry content offset id found (in_elements h) = IsLargeIn _ _ content offset found h
IsLargeEntry content offset id found (in_segments h) = IsLargeIn _ _ content offset found h
IsLargeEntry content offset id found (in_tags h) = IsLargeIn _ _ content offset found h
IsLargeEntry content offset id found _ = ⊥

-- ---- operators

-- a refusal of an operator
abbrev pub IsLargeRefusal : (kind : ErrorKind) (features : Features) (bytes : List ℕ) → IsOperatorRefusal kind features bytes → Type 0
IsLargeRefusal kinds.Body features bytes (inr large) = ⊤
IsLargeRefusal kinds.Body features bytes (inl unread) = ⊥
IsLargeRefusal _ features bytes h = ⊥

-- an operator that stops at a place
abbrev pub IsLargeOperator : (offset : ℕ) (now : Input) → IsUnpassed offset now → Type 0
IsLargeOperator offset now (inl refused) = IsLargeRefusal refused.kind now.features now.rest refused.refused
IsLargeOperator offset now (inr past) = ⊥

-- a place in a body, and in a code section
abbrev pub IsLargeInBody : (function : ℕ) (body : Input) (offset : ℕ) (place : Place) → IsInBody function body offset place → Type 0
IsLargeInBody function body offset (places.Operator f number name) h = IsLargeOperator offset h.1.now.input h.1.stops.stops
IsLargeInBody function body offset _ h = ⊥

abbrev pub IsLargeAtBody : (function : ℕ) (i : Input) (offset : ℕ) (place : Place) → IsAtBody function i offset place → Type 0
IsLargeAtBody function i offset place (in_size h) = ⊥
IsLargeAtBody function i offset place (within p h) = IsLargeInBody function h.body offset place h.stands

abbrev pub IsLargeInCode : (imported : ℕ) (content : Input) (offset : ℕ) (place : Place) → IsInCode imported content offset place → Type 0
IsLargeInCode imported content offset place (in_bodies p h) = IsLargeAtBody _ h.in_one.now offset place h.in_one.stands
IsLargeInCode imported content offset place _ = ⊥

-- ---- sections

-- a place in a section, and in a module
abbrev pub IsLargeInContent : (imported : ℕ) (content : Input) (offset id : ℕ) (place : Place) → IsInContent imported content offset id place → Type 0
IsLargeInContent imported content offset id place (in_code p h) = IsLargeInCode imported content offset place h
IsLargeInContent imported content offset id place (around k h) = ⊥
IsLargeInContent imported content offset id place (in_entry k number h) = IsLargeEntry content offset id (founds.Entry number) h

abbrev pub IsLargeAtSection : (imported : ℕ) (old : Input) (offset : ℕ) (place : Place) → IsAtSection imported old offset place → Type 0
IsLargeAtSection imported old offset place (sections.within p h) = IsLargeInContent imported h.content offset h.id place h.stands
IsLargeAtSection imported old offset place _ = ⊥

abbrev pub IsLargePlace : (features : Features) (bytes : List ℕ) (offset : ℕ) (place : Place) → IsPlace features bytes offset place → Type 0
IsLargePlace features bytes offset place (in_header h) = ⊥
IsLargePlace features bytes offset place (in_sections p le begins h) = IsLargeAtSection h.now.imported h.now.input offset place h.stands
