-- Frames one after the other, and how long they are.
use Rattle.std.proofs.Common.{◌≡◌, ℕ, ◌+◌, ◌≤◌, ◌<◌, Bool, List, [], ◌∷◌, ◌++◌, length, map, drop, get_or, Option, Some, None, refl, ap, sym, ◌∙◌, subst, inl, inr, arith, length-append, if◌then◌else◌, Result, Ok, Err, IfOk}
use Rattle.std.specs.List.{AllByRecursion, flat_map}
use Rattle.std.proofs.lemmas.List.{drop_more, drop_all}
use Rattle.wasm_smith_sections.specs.Contents.{section_bytes}
use Rattle.wasm_smith_sections.specs.FilledSections.{filled_frame, frame, frame_bytes, IsLongFrame, IsShortFrame}
use Rattle.wasm_smith_sections.specs.ModuleEncoding.{AreBodyEncodings, IsLongSection, IsModuleEncoding, IsShortSection, PassesLength, SomeByRecursion}
use Rattle.wasm_smith_sections.specs.declared.filled_section.FilledSection.{FilledSection}
use Rattle.wasm_smith_validity.specs.Made.{Made}
use Rattle.wasm_smith_validity.specs.Sections.{sections_with}
use Rattle.wasm_spec.specs.Grammar.{header}
use Rattle.wasm_spec.specs.Shortest.{section_encoding}
use Rattle.wasm_spec.specs.Syntax.{Section}

-- ---- a loop over sections

abbrev pub bytes_of : List FilledSection → List ℕ
bytes_of sections = flat_map frame_bytes (map filled_frame sections)

abbrev pub AllShort : List FilledSection → Type 0
AllShort sections = AllByRecursion IsShortFrame (map filled_frame sections)

abbrev pub SomeLong : List FilledSection → Type 0
SomeLong sections = SomeByRecursion IsLongFrame (map filled_frame sections)

next : (sections : List FilledSection) (i : ℕ) (section : FilledSection) → i < length sections → section ≡ get_or sections i section → drop i sections ≡ section ∷ drop (i + 1) sections
next sections i section within is = drop_more sections i section within ∙ ap (λ s. s ∷ drop (i + 1) sections) (sym is)

pub next_bytes : (sections : List FilledSection) (i : ℕ) (section : FilledSection) → i < length sections → section ≡ get_or sections i section
    → bytes_of (drop i sections) ≡ frame_bytes (filled_frame section) ++ bytes_of (drop (i + 1) sections)
next_bytes sections i section within is = ap bytes_of (next sections i section within is)

pub next_length : (sections : List FilledSection) (i len more total : ℕ) (section : FilledSection) → i < length sections → section ≡ get_or sections i section
    → more ≡ length (frame_bytes (filled_frame section)) → len + length (bytes_of (drop i sections)) ≡ total → (len + more) + length (bytes_of (drop (i + 1) sections)) ≡ total
next_length sections i len more total section within is exact so_far =
    let split = ap length (next_bytes sections i section within is) in
    omega (arith, split, exact, so_far, length-append (frame_bytes (filled_frame section)) (bytes_of (drop (i + 1) sections)))

pub next_short : (sections : List FilledSection) (i : ℕ) (section : FilledSection) → i < length sections → section ≡ get_or sections i section → IsShortFrame (filled_frame section)
    → (AllShort (drop i sections) → AllShort sections) → AllShort (drop (i + 1) sections) → AllShort sections
next_short sections i section within is short so_far rest = so_far (subst AllShort (sym (next sections i section within is)) (short, rest))

pub next_long : (sections : List FilledSection) (i : ℕ) (section : FilledSection) → i < length sections → section ≡ get_or sections i section
    → (SomeLong (drop i sections) → SomeLong sections) → SomeLong (drop (i + 1) sections) → SomeLong sections
next_long sections i section within is so_far rest = so_far (subst SomeLong (sym (next sections i section within is)) (inr rest))

pub this_long : (sections : List FilledSection) (i : ℕ) (section : FilledSection) → i < length sections → section ≡ get_or sections i section
    → (SomeLong (drop i sections) → SomeLong sections) → IsLongFrame (filled_frame section) → SomeLong sections
this_long sections i section within is so_far long = so_far (subst SomeLong (sym (next sections i section within is)) (inl long))

pub no_bytes_left : (sections : List FilledSection) (i : ℕ) → length sections ≤ i → bytes_of (drop i sections) ≡ []
no_bytes_left sections i past = ap bytes_of (drop_all i sections past)

pub all_short : (sections : List FilledSection) (i : ℕ) → length sections ≤ i → (AllShort (drop i sections) → AllShort sections) → AllShort sections
all_short sections i past so_far = so_far (subst AllShort (sym (drop_all i sections past)) tt)

-- ---- the sections of a made module

-- their bytes
pub bytes_are : (sections : List Section) → flat_map frame_bytes (map frame sections) ≡ flat_map section_bytes sections
unfolding section_encoding
bytes_are [] = refl
bytes_are (section ∷ sections) = ap (λ l. section_bytes section ++ l) (bytes_are sections)

pub short_sections : (sections : List Section) → AllByRecursion IsShortFrame (map frame sections) → AllByRecursion IsShortSection sections
short_sections [] h = tt
short_sections (section ∷ sections) h = (h.0, short_sections sections h.1)

pub long_section : (sections : List Section) → SomeByRecursion IsLongFrame (map frame sections) → SomeByRecursion IsLongSection sections
long_section [] some = some
long_section (section ∷ sections) (inl long) = inl long
long_section (section ∷ sections) (inr some) = inr (long_section sections some)

pub module_of : (counted : Bool) (m : Made) (bodies : List (List ℕ)) (frames : List (ℕ × List ℕ)) (bytes : List ℕ) → AreBodyEncodings m.bodies bodies
    → frames ≡ map frame (sections_with counted bodies m) → bytes ≡ header ++ flat_map frame_bytes frames → AllByRecursion IsShortFrame frames → IsModuleEncoding counted m bytes
module_of counted m bodies frames bytes are made is short = record {
  bodies = bodies;
  are = are;
  short = short_sections (sections_with counted bodies m) (subst (AllByRecursion IsShortFrame) made short);
  is = is ∙ ap (λ l. header ++ l) (ap (flat_map frame_bytes) made ∙ bytes_are (sections_with counted bodies m));
}

pub too_long_of : (counted : Bool) (m : Made) (bodies : List (List ℕ)) (frames : List (ℕ × List ℕ)) → AreBodyEncodings m.bodies bodies
    → frames ≡ map frame (sections_with counted bodies m) → SomeByRecursion IsLongFrame frames → PassesLength counted m
too_long_of counted m bodies frames are made some =
    inr (inr (inr (bodies, are, long_section (sections_with counted bodies m) (subst (SomeByRecursion IsLongFrame) made some))))

-- ---- two clauses of one result

pub both_ok : {A E : Type 0} (result : Result A E) (P Q : A → Type 0) → IfOk result P → IfOk result Q → IfOk result (λ x. P x × Q x)
both_ok (Ok x) P Q p q = (p, q)
both_ok (Err e) P Q p q = tt
