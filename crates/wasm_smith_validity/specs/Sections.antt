-- The sections that a made module is written as. Core Specification 3.0, Binary Format, "Modules".
use Rattle.std.specs.Prelude.{ℕ, suc, Bool, if◌then◌else◌, List, [], ◌∷◌, ◌++◌, map, length, nat_eq}
use Rattle.std.specs.List.{filter, flat_map}
use Rattle.std.specs.Option.{option_to_list}
use Rattle.wasm_spec.specs.Syntax.{Section, Custom, TypeSection, ImportSection, FunctionSection, TableSection, MemorySection, TagSection, GlobalSection, ExportSection, StartSection, ElementSection, DataCountSection, CodeSection, DataSection}
use Rattle.wasm_smith_validity.specs.Made.{Made, PlacedCustom}

-- a section of these items, where there are some
abbrev pub unless_empty : {A : Type 0} → (List A → Section) → List A → List Section
unless_empty section [] = []
unless_empty section (item ∷ items) = section (item ∷ items) ∷ []

-- For each of the thirteen kinds in their order, its section, if there is one. Functions have these bodies, and data segments are counted where that is asked for.
abbrev pub kinds_with : Bool → List (List ℕ) → Made → List (List Section)
kinds_with counted bodies m =
    unless_empty (λ xs. TypeSection xs) m.groups
    ∷ unless_empty (λ xs. ImportSection xs) m.imports
    ∷ unless_empty (λ xs. FunctionSection xs) m.funcs
    ∷ unless_empty (λ xs. TableSection xs) m.tables
    ∷ unless_empty (λ xs. MemorySection xs) m.memories
    ∷ unless_empty (λ xs. TagSection xs) m.tags
    ∷ unless_empty (λ xs. GlobalSection xs) m.globals
    ∷ unless_empty (λ xs. ExportSection xs) m.exports
    ∷ map (λ f. StartSection f) (option_to_list m.start)
    ∷ unless_empty (λ xs. ElementSection xs) m.elems
    ∷ unless_empty (λ segments. DataCountSection (length segments)) (if counted then m.data_segments else [])
    ∷ unless_empty (λ xs. CodeSection xs) bodies
    ∷ unless_empty (λ xs. DataSection xs) m.data_segments
    ∷ []

-- the sections of a module but for its custom ones
abbrev pub ordered_sections : Bool → List (List ℕ) → Made → List Section
ordered_sections counted bodies m = flat_map (λ kind. kind) (kinds_with counted bodies m)

abbrev pub section_of : PlacedCustom → Section
section_of custom = Custom custom.name custom.contents

-- the custom sections of a place, in the order in which they are given
abbrev pub customs_before : ℕ → List PlacedCustom → List Section
customs_before place customs = map section_of (filter (λ (custom : PlacedCustom). nat_eq custom.place place) customs)

-- sections by their kinds, the first of which has this number, with custom sections before each kind and behind the last
abbrev pub between : ℕ → List PlacedCustom → List (List Section) → List Section
between place customs [] = customs_before place customs
between place customs (kind ∷ kinds) = customs_before place customs ++ (kind ++ between (suc place) customs kinds)

-- the sections of a module whose functions have these bodies
abbrev pub sections_with : Bool → List (List ℕ) → Made → List Section
sections_with counted bodies m = between 0 m.customs (kinds_with counted bodies m)
