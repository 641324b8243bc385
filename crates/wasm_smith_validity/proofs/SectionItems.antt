-- The types, functions and bodies in the sections of a made module.
use Rattle.std.proofs.Common.{◌≡◌, ℕ, Bool, List, [], ◌∷◌, ◌++◌, length, map, refl, ◌∙◌, if◌then◌else◌, Option, Some, None}
use Rattle.std.specs.List.{flat_map}
use Rattle.std.specs.Option.{option_to_list}
use Rattle.std.proofs.lemmas.List.{append-nil}
use Rattle.wasm_spec.specs.Syntax.{Section, TypeSection, ImportSection, FunctionSection, TableSection, MemorySection, TagSection, GlobalSection, ExportSection, StartSection, ElementSection, DataCountSection, CodeSection, DataSection, DataSegment, members, types_in, types_of as written_types, functions_in, functions_of, bodies_in, bodies_of}
use Rattle.wasm_smith_validity.specs.ValidGroups.{types_of}
use Rattle.wasm_smith_validity.specs.Made.{Made}
use Rattle.wasm_smith_validity.specs.Sections.{kinds_with, unless_empty, sections_with}
use Rattle.wasm_smith_validity.proofs.CustomSections.{nothing_between}
use Rattle.wasm_smith_validity.proofs.MadeSections.{said}

-- ---- sections that have none

silent : {A B : Type 0} (f : Section → List B) (section : List A → Section) → ((items : List A) → f (section items) ≡ []) → (items : List A) (others : List Section) (rest : List B)
    → flat_map f others ≡ rest → flat_map f (unless_empty section items ++ others) ≡ rest
silent f section none items others rest e = said f section (λ xs. []) none refl items others rest e

silent_start : {B : Type 0} (f : Section → List B) → ((function : ℕ) → f (StartSection function) ≡ []) → (start : Option ℕ) (others : List Section) (rest : List B)
    → flat_map f others ≡ rest → flat_map f (map (λ x. StartSection x) (option_to_list start) ++ others) ≡ rest
silent_start f none None others rest e = e
silent_start f none (Some function) others rest e = rw (none function) e

silent_data : {B : Type 0} (f : Section → List B) → ((segments : List DataSegment) → f (DataSection segments) ≡ []) → (segments : List DataSegment)
    → flat_map f (unless_empty (λ xs. DataSection xs) segments ++ []) ≡ []
silent_data f none [] = refl
silent_data f none (segment ∷ segments) = rw (none (segment ∷ segments)) refl

-- ---- what there is

pub types_are : (counted : Bool) (bodies : List (List ℕ)) (m : Made) → written_types (sections_with counted bodies m) ≡ types_of m.groups
types_are counted bodies m =
    nothing_between types_in (λ name contents. refl) 0 m.customs (kinds_with counted bodies m) ∙
    said types_in (λ xs. TypeSection xs) (λ xs. flat_map members xs) (λ xs. refl) refl m.groups _ _
    (silent types_in (λ xs. ImportSection xs) (λ xs. refl) m.imports _ _
    (silent types_in (λ xs. FunctionSection xs) (λ xs. refl) m.funcs _ _
    (silent types_in (λ xs. TableSection xs) (λ xs. refl) m.tables _ _
    (silent types_in (λ xs. MemorySection xs) (λ xs. refl) m.memories _ _
    (silent types_in (λ xs. TagSection xs) (λ xs. refl) m.tags _ _
    (silent types_in (λ xs. GlobalSection xs) (λ xs. refl) m.globals _ _
    (silent types_in (λ xs. ExportSection xs) (λ xs. refl) m.exports _ _
    (silent_start types_in (λ x. refl) m.start _ _
    (silent types_in (λ xs. ElementSection xs) (λ xs. refl) m.elems _ _
    (silent types_in (λ segments. DataCountSection (length segments)) (λ xs. refl) (if counted then m.data_segments else []) _ _
    (silent types_in (λ xs. CodeSection xs) (λ xs. refl) bodies _ _ (silent_data types_in (λ xs. refl) m.data_segments))))))))))))
    ∙ append-nil (types_of m.groups)

pub functions_are : (counted : Bool) (bodies : List (List ℕ)) (m : Made) → functions_of (sections_with counted bodies m) ≡ m.funcs
functions_are counted bodies m =
    nothing_between functions_in (λ name contents. refl) 0 m.customs (kinds_with counted bodies m) ∙
    silent functions_in (λ xs. TypeSection xs) (λ xs. refl) m.groups _ _
    (silent functions_in (λ xs. ImportSection xs) (λ xs. refl) m.imports _ _
    (said functions_in (λ xs. FunctionSection xs) (λ xs. xs) (λ xs. refl) refl m.funcs _ _
    (silent functions_in (λ xs. TableSection xs) (λ xs. refl) m.tables _ _
    (silent functions_in (λ xs. MemorySection xs) (λ xs. refl) m.memories _ _
    (silent functions_in (λ xs. TagSection xs) (λ xs. refl) m.tags _ _
    (silent functions_in (λ xs. GlobalSection xs) (λ xs. refl) m.globals _ _
    (silent functions_in (λ xs. ExportSection xs) (λ xs. refl) m.exports _ _
    (silent_start functions_in (λ x. refl) m.start _ _
    (silent functions_in (λ xs. ElementSection xs) (λ xs. refl) m.elems _ _
    (silent functions_in (λ segments. DataCountSection (length segments)) (λ xs. refl) (if counted then m.data_segments else []) _ _
    (silent functions_in (λ xs. CodeSection xs) (λ xs. refl) bodies _ _ (silent_data functions_in (λ xs. refl) m.data_segments))))))))))))
    ∙ append-nil m.funcs

pub bodies_are : (counted : Bool) (bodies : List (List ℕ)) (m : Made) → bodies_of (sections_with counted bodies m) ≡ bodies
bodies_are counted bodies m =
    nothing_between bodies_in (λ name contents. refl) 0 m.customs (kinds_with counted bodies m) ∙
    silent bodies_in (λ xs. TypeSection xs) (λ xs. refl) m.groups _ _
    (silent bodies_in (λ xs. ImportSection xs) (λ xs. refl) m.imports _ _
    (silent bodies_in (λ xs. FunctionSection xs) (λ xs. refl) m.funcs _ _
    (silent bodies_in (λ xs. TableSection xs) (λ xs. refl) m.tables _ _
    (silent bodies_in (λ xs. MemorySection xs) (λ xs. refl) m.memories _ _
    (silent bodies_in (λ xs. TagSection xs) (λ xs. refl) m.tags _ _
    (silent bodies_in (λ xs. GlobalSection xs) (λ xs. refl) m.globals _ _
    (silent bodies_in (λ xs. ExportSection xs) (λ xs. refl) m.exports _ _
    (silent_start bodies_in (λ x. refl) m.start _ _
    (silent bodies_in (λ xs. ElementSection xs) (λ xs. refl) m.elems _ _
    (silent bodies_in (λ segments. DataCountSection (length segments)) (λ xs. refl) (if counted then m.data_segments else []) _ _
    (said bodies_in (λ xs. CodeSection xs) (λ xs. xs) (λ xs. refl) refl bodies _ _ (silent_data bodies_in (λ xs. refl) m.data_segments))))))))))))
    ∙ append-nil bodies
