-- How many functions sections import.
use Rattle.std.specs.Prelude.{◌≡◌, ◌≤◌, ℕ, ◌+◌, ◌==◌, Bool, List, [], ◌∷◌, length, Option, Some, None, if◌then◌else◌}
use Rattle.std.specs.List.{flat_map}
use Rattle.std.specs.Option.{unwrap_or}
use Rattle.wasm_core_read.specs.PartReading.{import_at}
use Rattle.wasm_core_read.specs.Reading.{filled}
use Rattle.wasm_core_read.specs.TypeReading.{list_at}
use Rattle.wasm_spec.specs.Spaces.{imported, one_of}
use Rattle.wasm_spec.specs.Syntax.{ImportEntry, imported_by}
use Rattle.wasm_spec.specs.Types.{ExternalType, kind_of}
use Rattle.wasmparser_entries.specs.ImportEntries.{group_code}

-- how many functions an import of this type is
abbrev pub functions_in : {R : Type 0} → ExternalType R → ℕ
functions_in type = (one_of (kind_of type)).functions

-- how many functions imports of these types are
abbrev pub functions_among : List (ExternalType ℕ) → ℕ
functions_among types = (imported types).functions

-- the entries of an import section with this content, or none where they don't read or don't fill it
abbrev pub entries_in : Bool → List ℕ → List ImportEntry
entries_in compact content = unwrap_or (filled (list_at (import_at compact) content)) []

-- the types of what a section imports, by its id and its content
abbrev pub imports_of : Bool → ℕ × List ℕ → List (ExternalType ℕ)
imports_of compact section = if section.0 == 2 then flat_map imported_by (entries_in compact section.1) else []

-- ---- counting

-- the sum of what each item counts
abbrev pub counted : {A : Type 0} → (A → ℕ) → List A → ℕ
counted count [] = 0
counted count (x ∷ xs) = count x + counted count xs

-- the byte that is the form of a group of imports, after the module's name, where there are such groups
abbrev pub code_of : Bool → List ℕ → Option ℕ
code_of compact bytes = if compact then group_code bytes else None

-- The result of a call that counts the functions that the next section imports, if one reads: each of them takes a byte.
abbrev pub CountsNext : Bool → Option ((ℕ × List ℕ) × List ℕ) → ℕ → Type 0
CountsNext compact None functions = functions ≡ 0
CountsNext compact (Some read) functions = (functions ≡ functions_among (imports_of compact read.0)) × (functions ≤ length read.0.1)
